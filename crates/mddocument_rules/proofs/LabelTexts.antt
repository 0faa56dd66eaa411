-- The label of each definition among the events is, where labels are compared, the one that its lines define.
use Rattle.mddocument_rules.proofs.Prelude.{◌≡◌, ◌∙◌, ℕ, suc, ◌+◌, ◌-◌, Bool, true, false, cond, is_some, List, [], ◌∷◌, ◌++◌, append-nil, Option, Some, ap, drop, flat_map, map, refl, subst, sym, take, every-back, every-front, AllByRecursion, ◌&&◌, ◌||◌, Constructs, Event, Seat, virtual, lines_in, Definition, Known, nothing_known, rows, Part, Inside, Section, all_rows, defined, lines, table, sections}
use Rattle.std.proofs.lemmas.List.{drop-map, map-append, take-append-drop, take-map}
use Rattle.std.specs.List.{list_any}
use Rattle.std.specs.Prelude.{◌<◌, bytes_eq}
use Rattle.markdown_base.specs.declared.event.Name.TheVariants as name
use Rattle.mdconstructs_machines.proofs.BlockReads.Accounts.{lines-are-all}
use Rattle.mdblock_leaf_blocks.proofs.Lines.WholeLines.{whole-lines}
use Rattle.mdblock_containers.proofs.SeatFacts.{lines_end}
use Rattle.mdblock_definitions.proofs.Covered.{rows_of, sections-hold-lines}
use Rattle.mdblock_definitions.proofs.DefinitionLines.{text-is}
use Rattle.mdblock_definitions.proofs.SectionSound.{document-sound}
use Rattle.mdblock_definitions.proofs.StringEnds.{text-before}
use Rattle.mdblock_definitions.specs.Definitions.{Place, before_prefixes, line_marks, places_in, string_lines, text_byte, text_of}
use Rattle.mdblock_definitions.specs.Sectioned.{AreSound, IsSound}
use Rattle.mdblock_definitions.specs.Sections.{text_in}
use Rattle.mdblock_definitions.specs.Skeleton.{labels_in, labels_of_section, written_labels}
use Rattle.mdinline_labels.proofs.Known.{any-map}
use Rattle.mdinline_labels.specs.Labels.{normalised}
use Rattle.mdinline_labels.specs.Tails.{begins_with}
use Rattle.mddocument.proofs.DefinedLabels.{labels-are-defined}
use Rattle.mddocument.specs.DocumentEvents.{document_events}
use Rattle.mddocument_link_targets.specs.Spans.{enters, first_in, inside}
use Rattle.mddocument_link_targets.specs.Strings.{as_written}
use Rattle.mddocument_link_targets.specs.Targets.{defined_label, definition_from, written as label_text}
use Rattle.mddocument_rules.proofs.AlikeTexts.{alike-labels}
use Rattle.mddocument_rules.proofs.HeldSections.{bare}
use Rattle.mddocument_rules.proofs.HeldStrings.{read}
use Rattle.mddocument_rules.proofs.LabelStrings.{labels-are-of-sections}
use Rattle.mddocument_rules.proofs.LaidRows.{IsRow, RowsEnd, end-back, end-front, lines-placed, places-laid, rows-are, rows-end}
use Rattle.mddocument_rules.proofs.SpokenDefinitions.{AreLabelled, section-labelled}
use Rattle.mddocument_rules.proofs.WrittenPlaces.{AreLaid, AreLeft, laid-before, laid-behind, label-said}
use Rattle.mddocument_rules.specs.ReferenceLaws.{DefinedIsDefined, LabelsAreWritten, definitions_in, label_events_of_section, labels_of_definitions}

module _ (on : Constructs) (t : ℕ) (bytes : List ℕ) (some : 0 < t) where
  -- a label, by the events between its brackets
  abbrev said : List Event → List ℕ
  said label = normalised (as_written bytes (read on t bytes true label))

  of-definitions : (ds : List Definition) (xs : List Place) (text : List ℕ) (ss : List Seat) → text ≡ text_of xs → AreLabelled ds xs → AreLeft t bytes ss → AreLaid t bytes xs ss
      → map said (labels_of_definitions bytes ds xs) ≡ map normalised (labels_in ds text)
  of-definitions [] xs text ss is h left laid = refl
  of-definitions (d ∷ ds) xs text ss is h left laid =
      let n = d.label.size - 2 in
      let from = d.label.from + 1 in
      let ps = take n (drop from xs) in
      let qs = drop n (drop from xs) in
      let marks = line_marks bytes true (string_lines (before_prefixes ps)) in
      let start = laid-behind t bytes from xs ss left laid in
      let behind : text_of qs ≡ drop n (drop from (text_of xs)) = sym (drop-map text_byte n (drop from xs)) ∙ ap (drop n) (sym (drop-map text_byte from xs)) in
      let label = label-said t bytes on some (before_prefixes ps) qs start.0 start.1 (laid-before t bytes ps qs start.0 (subst (λ l. AreLaid t bytes l start.0) (sym (take-append-drop n (drop from xs))) start.2)) (ap (begins_with 93) behind ∙ h.0.label.close) in
      let gives : as_written bytes (read on t bytes true (bare marks)) ≡ label.text = ap (λ l. as_written bytes (read on t bytes true l)) (sym (append-nil (bare marks))) ∙ label.writes [] ∙ append-nil label.text in
      let same : text_of ps ≡ take n (drop from text) = sym (take-map text_byte n (drop from xs)) ∙ ap (take n) (sym (drop-map text_byte from xs)) ∙ ap (λ l. take n (drop from l)) (sym is) in
      let one : said (bare marks) ≡ normalised (take n (drop from text)) = ap normalised gives ∙ alike-labels label.text (text_of (before_prefixes ps)) label.alike ∙ ap normalised (text-before ps ∙ same) in
      let next = laid-behind t bytes (d.size + 1) xs ss left laid in
      let more = of-definitions ds (drop (d.size + 1) xs) (drop (d.size + 1) text) next.0 (ap (drop (d.size + 1)) is ∙ drop-map text_byte (d.size + 1) xs) h.1 next.1 next.2 in
      (λ i. one i ∷ more i)

  of-section : (part : Part) (i : Inside) → IsSound part i → AllByRecursion (IsRow t bytes) (all_rows part) → RowsEnd (all_rows part)
      → map said (label_events_of_section bytes (record { part = part; inside = i })) ≡ map normalised (labels_of_section (record { part = part; inside = i }))
  of-section part (lines is_behind) h rs e = refl
  of-section part table h rs e = refl
  of-section part (defined ds) h rs e =
      let laid = places-laid t bytes some (all_rows part) rs e in
      of-definitions ds (places_in bytes (all_rows part)) (text_in (all_rows part)) laid.0 (sym (text-is bytes (all_rows part))) (section-labelled bytes part (defined ds) h ds refl) laid.1 laid.2

  of-sections : (ss : List Section) → AreSound ss → AllByRecursion (IsRow t bytes) (rows_of ss) → RowsEnd (rows_of ss) → map said (flat_map (label_events_of_section bytes) ss) ≡ map normalised (flat_map labels_of_section ss)
  of-sections [] h rs e = refl
  of-sections (s ∷ ss) h rs e =
      let here = all_rows s.part in
      let one = of-section s.part s.inside h.0 (every-front (IsRow t bytes) here (rows_of ss) rs) (end-front here (rows_of ss) e) in
      let more = of-sections ss h.1 (every-back (IsRow t bytes) here (rows_of ss) rs) (end-back here (rows_of ss) e) in
      map-append said (label_events_of_section bytes s) (flat_map (label_events_of_section bytes) ss) ∙ (λ i. one i ++ more i) ∙ sym (map-append normalised (labels_of_section s) (flat_map labels_of_section ss))

twice : {A B C : Type 0} (f : B → C) (g : A → B) (xs : List A) → map f (map g xs) ≡ map (λ x. f (g x)) xs
twice f g [] = refl
twice f g (x ∷ xs) = ap (λ l. f (g x) ∷ l) (twice f g xs)

pub labels-are-written : LabelsAreWritten
labels-are-written g is =
    let on = g.options.constructs in
    let t = g.tab in
    let bytes = g.bytes in
    let seats = virtual t bytes in
    let ls = lines_in seats in
    let k : Known = record { before = nothing_known on; text = [] } in
    let ss : List Section = sections on (rows on ls) in
    let all : rows_of ss ≡ rows on ls = sections-hold-lines on (rows on ls) in
    let placed = lines-placed t bytes [] ls (sym (lines-are-all seats)) (whole-lines seats) in
    let rs = subst (AllByRecursion (IsRow t bytes)) (sym all) (rows-are t bytes on k 1 ls placed) in
    let ends = subst RowsEnd (sym all) (rows-end on k 1 ls (lines_end seats)) in
    let labels : List (List Event) = flat_map (label_events_of_section bytes) ss in
    let text : Option (List Event) → List ℕ = λ o. normalised (label_text bytes o) in
    sym (twice text (first_in name.DefinitionLabelString) (definitions_in (document_events g)))
    ∙ ap (map text) (labels-are-of-sections g is)
    ∙ twice text (λ label. Some (read on t bytes true label)) labels
    ∙ of-sections on t bytes is.tab.0 ss (document-sound on ls) rs ends

-- ---- labels that are defined
any-defined : (bytes label : List ℕ) (at : ℕ) (es : List Event) → is_some (definition_from bytes label at es) ≡ list_any (λ l. bytes_eq label l) (map (defined_label bytes) (definitions_in es))
any-defined bytes label at [] = refl
any-defined bytes label at (e ∷ es) = by (enters name.Definition e) (bytes_eq label (defined_label bytes (inside es))) refl (any-defined bytes label (suc at) es)
  where
    others : Bool
    others = list_any (λ l. bytes_eq label l) (map (defined_label bytes) (definitions_in es))

    by : (x y : Bool) → bytes_eq label (defined_label bytes (inside es)) ≡ y → is_some (definition_from bytes label (suc at) es) ≡ others
        → is_some (cond (x && y) (Some at) (definition_from bytes label (suc at) es)) ≡ list_any (λ l. bytes_eq label l) (map (defined_label bytes) (cond x (inside es ∷ definitions_in es) (definitions_in es)))
    by true true is more = ap (λ b. b || others) (sym is)
    by true false is more = more ∙ ap (λ b. b || others) (sym is)
    by false y is more = more

pub defined-is-defined : DefinedIsDefined
defined-is-defined g label is =
    let n = normalised label in
    ap (λ (is : List ℕ → Bool). is label) (labels-are-defined g)
    ∙ sym (any-map (λ l. bytes_eq n l) normalised (written_labels g.options.constructs (virtual g.tab g.bytes)))
    ∙ ap (list_any (λ l. bytes_eq n l)) (sym (labels-are-written g is))
    ∙ sym (any-defined g.bytes n 0 (document_events g))
