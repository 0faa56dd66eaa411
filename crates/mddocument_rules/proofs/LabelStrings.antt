-- The label of a definition is what stands between its brackets, read as strings.
use Rattle.mddocument_rules.proofs.Prelude.{◌≡◌, ◌∙◌, ℕ, ◌+◌, ◌-◌, Bool, true, false, cond, List, [], ◌∷◌, ◌++◌, None, Option, Some, append_assoc, ap, drop, flat_map, length, map, refl, subst, sym, take, and_parts, false_from_ne_true, false≢true, ◌&&◌, IsBalanced, Constructs, Event, Enter, Exit, Name, Seat, end_after, is_enter, same_name, same_name-true, event, Definition, Mark, leaf_marks, span_marks, lines_in, rows, Part, Inside, Section, all_rows, defined, lines, table, sections, virtual}
use Rattle.std.proofs.lemmas.List.{map-append}
use Rattle.markdown_base.proofs.Common.{every-drop, every-take}
use Rattle.markdown_base.specs.declared.event.Name.TheVariants as name
use Rattle.markdown_base.proofs.Balanced.{balanced_from_open, names_after_all-append, names_after_balanced}
use Rattle.markdown_base.specs.OpenNames.{names_after, names_after_all}
use Rattle.mdinline_link_strings.proofs.Kept.{data-balanced}
use Rattle.mdinline_link_strings.specs.Strings.{in_string_after, is_data, is_string, line_as_string, seats_between, with_strings}
use Rattle.mdblock_definitions.proofs.SectionSound.{document-sound}
use Rattle.mdblock_definitions.specs.Definitions.{Place, before_prefixes, between, ending_marks, gap_marks, last_prefixes, line_marks, parts_marks, places_in, places_of, seats_of, string_lines, text_of}
use Rattle.mdblock_definitions.specs.Sectioned.{AreSound, IsSound}
use Rattle.mddocument_link_targets.proofs.SpanEnds.{spans-end}
use Rattle.mddocument_link_targets.specs.Spans.{enters, first_in, inside}
use Rattle.mddocument_rules.proofs.DefinitionEvents.{definitions-are-of-sections}
use Rattle.mddocument_rules.proofs.Definitions.{EndingIs, EndingsAre, rows-are, string-is}
use Rattle.mddocument_rules.proofs.HeldSections.{bare, inner-kept}
use Rattle.mddocument_rules.proofs.HeldSpans.{read-both}
use Rattle.mddocument_rules.proofs.HeldStrings.{AreOutside, first-stays, read}
use Rattle.mddocument_rules.proofs.SpokenDefinitions.{AreLabelled, IsLabelled, before-bytes, behind_label, gap-no-data, label-seat, letter-seat, letters-are, no-data-both, no-data-leaf, section-labelled}
use Rattle.mddocument_rules.proofs.TextItems.{string-balanced}
use Rattle.mddocument_rules.specs.ReferenceLaws.{LabelsAreOfSections, label_events_of_section, labels_of_definitions, parts_of_definitions, parts_of_section}

-- marks one behind another
in-a-row : (gap sign said after close behind : List Mark) (e1 x1 e2 x2 : Mark)
    → gap ++ ((e1 ∷ ((sign ++ (((e2 ∷ (said ++ x2 ∷ [])) ++ after) ++ close)) ++ x1 ∷ [])) ++ behind) ≡ (gap ++ e1 ∷ sign) ++ e2 ∷ (said ++ x2 ∷ (after ++ (close ++ x1 ∷ behind)))
in-a-row gap sign said after close behind e1 x1 e2 x2 = simp append_assoc

module _ (on : Constructs) (t : ℕ) (bytes : List ℕ) where
  abbrev line : Event → Event → List Event
  line e f = line_as_string on t bytes e.point f.point

  -- the same names are open behind events whose strings are read
  names-same : (o : Option (List Name)) (state : Bool) (es : List Event) → names_after_all o (read on t bytes state es) ≡ names_after_all o es
  names-same None state es = refl
  names-same (Some st) state [] = refl
  names-same (Some st) state (e ∷ []) = refl
  names-same (Some st) state (e ∷ f ∷ es) = cases (state && is_data e f) refl (names-same (Some st) state es) (names-same (names_after e.kind e.name st) (in_string_after state e) (f ∷ es))
    where
      cases : (b : Bool) → (state && is_data e f) ≡ b → names_after_all (Some st) (read on t bytes state es) ≡ names_after_all (Some st) es
          → names_after_all (names_after e.kind e.name st) (read on t bytes (in_string_after state e) (f ∷ es)) ≡ names_after_all (names_after e.kind e.name st) (f ∷ es)
          → names_after_all (Some st) (cond b (line e f ++ read on t bytes state es) (e ∷ read on t bytes (in_string_after state e) (f ∷ es))) ≡ names_after_all (Some st) (e ∷ f ∷ es)
      cases true h one other =
          names_after_all-append (Some st) (line e f) (read on t bytes state es)
          ∙ ap (λ o. names_after_all o (read on t bytes state es)) (names_after_balanced (string-balanced bytes on (seats_between t bytes e.point f.point)) st)
          ∙ one
          ∙ ap (λ o. names_after_all o es) (sym (names_after_balanced (data-balanced e f (and_parts state (is_data e f) h).1) st))
          ∙ sym (names_after_all-append (Some st) (e ∷ f ∷ []) es)
      cases false h one other = other

  read-balanced : (state : Bool) (es : List Event) → IsBalanced es → IsBalanced (read on t bytes state es)
  read-balanced state es b = balanced_from_open (read on t bytes state es) (names-same (Some []) state es ∙ names_after_balanced b [])

  -- events that are no data and no strings stay
  read-outside : (xs ys : List Event) → AreOutside xs → read on t bytes false (xs ++ ys) ≡ xs ++ read on t bytes false ys
  read-outside [] ys h = refl
  read-outside (x ∷ xs) ys h =
      first-stays on t bytes false x (xs ++ ys) h.0.0
      ∙ ap (λ b. x ∷ read on t bytes (cond b (is_enter x.kind) false) (xs ++ ys)) h.0.1
      ∙ ap (λ l. x ∷ l) (read-outside xs ys h.1)

  -- no label begins there
  label-string : (n : Name) → is_string n ≡ false → same_name n name.DefinitionLabelString ≡ false
  label-string n s = false_from_ne_true (same_name n name.DefinitionLabelString) (λ e. false≢true (sym s ∙ ap is_string (same_name-true n name.DefinitionLabelString e)))

  first-behind : (xs ys : List Event) → AreOutside xs → first_in name.DefinitionLabelString (xs ++ ys) ≡ first_in name.DefinitionLabelString ys
  first-behind [] ys h = refl
  first-behind (x ∷ xs) ys h = by (enters name.DefinitionLabelString x) no ∙ first-behind xs ys h.1
    where
      no : enters name.DefinitionLabelString x ≡ false
      no = false_from_ne_true (enters name.DefinitionLabelString x) (λ k. false≢true (sym (label-string x.name h.0.1) ∙ (and_parts (is_enter x.kind) (same_name x.name name.DefinitionLabelString) k).1))

      by : (b : Bool) → b ≡ false → cond b (Some (inside (xs ++ ys))) (first_in name.DefinitionLabelString (xs ++ ys)) ≡ first_in name.DefinitionLabelString (xs ++ ys)
      by b n = ap (λ c. cond c (Some (inside (xs ++ ys))) (first_in name.DefinitionLabelString (xs ++ ys))) n

  -- what is in the first label of events
  label-read : (front us tail : List Event) (s : Seat) (ss : List Seat) → AreOutside front → IsBalanced us
      → first_in name.DefinitionLabelString (read on t bytes false (front ++ event bytes Enter name.DefinitionLabelString s.point ∷ (us ++ event bytes Exit name.DefinitionLabelString (end_after s.end ss) ∷ tail)))
      ≡ Some (read on t bytes true us)
  label-read front us tail s ss out b =
      let enter = event bytes Enter name.DefinitionLabelString s.point in
      let exit = event bytes Exit name.DefinitionLabelString (end_after s.end ss) in
      let two = read-both on t bytes true us exit tail refl in
      let rest = read on t bytes (in_string_after two.0 exit) tail in
      let inner : read on t bytes true (us ++ exit ∷ tail) ≡ read on t bytes true us ++ exit ∷ rest = two.1 ∙ ap (λ l. read on t bytes true us ++ l) (first-stays on t bytes two.0 exit tail refl) in
      ap (first_in name.DefinitionLabelString) (read-outside front (enter ∷ (us ++ exit ∷ tail)) out ∙ ap (λ l. front ++ l) (first-stays on t bytes false enter (us ++ exit ∷ tail) refl))
      ∙ first-behind front (enter ∷ read on t bytes true (us ++ exit ∷ tail)) out
      ∙ ap (λ l. Some (inside l)) inner
      ∙ ap (λ l. Some l) (spans-end (read on t bytes true us) rest exit (read-balanced true us b) refl).0

  -- ---- the label of a definition
  module _ (d : Definition) (xs : List Place) (is : IsLabelled (text_of xs) d) (inner : EndingsAre (inner-kept bytes) xs) where
    abbrev all : List Place
    all = take d.size xs

    abbrev named : List Place
    named = places_of d.label all

    abbrev between_them : List Place
    between_them = between 1 (length named - 1) named

    abbrev said : List Mark
    said = line_marks bytes true (string_lines (before_prefixes between_them))

    abbrev after : List Mark
    after = flat_map (ending_marks bytes) (last_prefixes between_them)

    abbrev sign : List Mark
    sign = leaf_marks bytes name.DefinitionLabelMarker (seats_of (between 0 1 named))

    abbrev close : List Mark
    close = leaf_marks bytes name.DefinitionLabelMarker (seats_of (drop (length named - 1) named))

    abbrev gap : List Mark
    gap = gap_marks bytes (between 0 d.label.from all)

    -- the marks of a definition, with virtual bytes of its label
    abbrev with_seats : List Seat → List Seat → List Mark
    with_seats label letters = gap ++ (span_marks bytes name.DefinitionLabel label (sign ++ ((span_marks bytes name.DefinitionLabelString letters said ++ after) ++ close)) ++ behind_label bytes d all)

    letters-there : between_them ≡ take (d.label.size - 2) (drop (d.label.from + 1) xs)
    letters-there = letters-are bytes d xs is

    balanced : IsBalanced (bare said)
    balanced =
        let there = every-take (EndingIs (inner-kept bytes)) (d.label.size - 2) (drop (d.label.from + 1) xs) (every-drop (EndingIs (inner-kept bytes)) (d.label.from + 1) xs inner) in
        (string-is (inner-kept bytes) between_them (subst (EndingsAre (inner-kept bytes)) (sym letters-there) there)).balanced

    pub label-is-read : first_in name.DefinitionLabelString (with_strings on t bytes (bare (parts_marks bytes d all))) ≡ Some (read on t bytes true (bare (line_marks bytes true (string_lines (before_prefixes (take (d.label.size - 2) (drop (d.label.from + 1) xs)))))))
    label-is-read =
        let l = label-seat bytes d xs is in
        let m = letter-seat bytes d xs is in
        let s = l.first in
        let r = m.first in
        let e1 : Mark = (event bytes Enter name.DefinitionLabel s.point, None) in
        let x1 : Mark = (event bytes Exit name.DefinitionLabel (end_after s.end l.others), None) in
        let e2 : Mark = (event bytes Enter name.DefinitionLabelString r.point, None) in
        let x2 : Mark = (event bytes Exit name.DefinitionLabelString (end_after r.end m.others), None) in
        let front = gap ++ e1 ∷ sign in
        let tail = after ++ (close ++ (x1 ∷ behind_label bytes d all)) in
        let seats : parts_marks bytes d all ≡ with_seats (s ∷ l.others) (r ∷ m.others) = (λ i. with_seats (l.are i) (m.are i)) in
        let flat : with_seats (s ∷ l.others) (r ∷ m.others) ≡ front ++ e2 ∷ (said ++ x2 ∷ tail) = in-a-row gap sign said after close (behind_label bytes d all) e1 x1 e2 x2 in
        let events : bare (front ++ e2 ∷ (said ++ x2 ∷ tail)) ≡ bare front ++ e2.0 ∷ (bare said ++ x2.0 ∷ bare tail) =
        map-append (λ (k : Mark). k.0) front (e2 ∷ (said ++ x2 ∷ tail)) ∙ ap (λ q. bare front ++ e2.0 ∷ q) (map-append (λ (k : Mark). k.0) said (x2 ∷ tail)) in
        let outside : AreOutside (bare front) =
        no-data-both bytes gap (e1 ∷ sign) (gap-no-data bytes (between 0 d.label.from all) (before-bytes bytes d xs is))
        (no-data-both bytes (e1 ∷ []) sign ((refl, refl), tt) (no-data-leaf bytes name.DefinitionLabelMarker (seats_of (between 0 1 named)) (refl, refl))) in
        ap (λ q. first_in name.DefinitionLabelString (with_strings on t bytes q)) (ap bare (seats ∙ flat) ∙ events)
        ∙ label-read (bare front) (bare said) (bare tail) r m.others outside balanced
        ∙ ap (λ q. Some (read on t bytes true (bare (line_marks bytes true (string_lines (before_prefixes q)))))) letters-there

  abbrev label_in : List Event → Option (List Event)
  label_in us = first_in name.DefinitionLabelString (with_strings on t bytes us)

  abbrev label_of : List Event → Option (List Event)
  label_of us = Some (read on t bytes true us)

  of-definitions : (ds : List Definition) (xs : List Place) → AreLabelled ds xs → EndingsAre (inner-kept bytes) xs → map label_in (parts_of_definitions bytes ds xs) ≡ map label_of (labels_of_definitions bytes ds xs)
  of-definitions [] xs h inner = refl
  of-definitions (d ∷ ds) xs h inner =
      let one = label-is-read d xs h.0 inner in
      let more = of-definitions ds (drop (d.size + 1) xs) h.1 (every-drop (EndingIs (inner-kept bytes)) (d.size + 1) xs inner) in
      (λ i. one i ∷ more i)

  of-section : (part : Part) (i : Inside) → IsSound part i → map label_in (parts_of_section bytes (record { part = part; inside = i })) ≡ map label_of (label_events_of_section bytes (record { part = part; inside = i }))
  of-section part (lines is_behind) h = refl
  of-section part table h = refl
  of-section part (defined ds) h = of-definitions ds (places_in bytes (all_rows part)) (section-labelled bytes part (defined ds) h ds refl) (rows-are (inner-kept bytes) (all_rows part))

  of-sections : (ss : List Section) → AreSound ss → map label_in (flat_map (parts_of_section bytes) ss) ≡ map label_of (flat_map (label_events_of_section bytes) ss)
  of-sections [] h = refl
  of-sections (s ∷ ss) h =
      let one = of-section s.part s.inside h.0 in
      let more = of-sections ss h.1 in
      map-append label_in (parts_of_section bytes s) (flat_map (parts_of_section bytes) ss) ∙ (λ i. one i ++ more i) ∙ sym (map-append label_of (label_events_of_section bytes s) (flat_map (label_events_of_section bytes) ss))

  twice : (uss : List (List Event)) → map (first_in name.DefinitionLabelString) (map (with_strings on t bytes) uss) ≡ map label_in uss
  twice [] = refl
  twice (us ∷ uss) = ap (λ l. label_in us ∷ l) (twice uss)

pub labels-are-of-sections : LabelsAreOfSections
labels-are-of-sections g is =
    let on = g.options.constructs in
    let ls = lines_in (virtual g.tab g.bytes) in
    let ss : List Section = sections on (rows on ls) in
    ap (map (first_in name.DefinitionLabelString)) (definitions-are-of-sections g is)
    ∙ twice on g.tab g.bytes (flat_map (parts_of_section g.bytes) ss)
    ∙ of-sections on g.tab g.bytes ss (document-sound on ls)
