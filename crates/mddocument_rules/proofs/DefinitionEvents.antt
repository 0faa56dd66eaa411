-- The definitions among the events of a document are those of its sections, with their strings read.
use Rattle.mddocument_rules.proofs.Prelude.{◌≡◌, ◌∙◌, ℕ, suc, ◌+◌, List, [], ◌∷◌, false, None, append-nil, ap, arith, drop, flat_map, length, map, refl, subst, sym, Event, Definition, document_skeleton, lines_in, rows, Part, Inside, Section, all_rows, defined, lines, table, sections, sections_marks, text_in, virtual, chained_from}
use Rattle.std.proofs.lemmas.List.{length-append, length-map}
use Rattle.mdblock_containers.proofs.SeatFacts.{document_lines}
use Rattle.mdblock_definitions.proofs.SectionSound.{document-sound}
use Rattle.mdblock_definitions.proofs.SectionTurns.{document-cut}
use Rattle.mdblock_definitions.specs.Definitions.{Place, places_in}
use Rattle.mdblock_definitions.specs.Skeleton.{labels_in, labels_of_section}
use Rattle.mddocument.specs.DocumentEvents.{document_events, document_texts}
use Rattle.mdinline_link_strings.specs.Strings.{seats_between, with_strings}
use Rattle.mdinline_labels.specs.Labels.{normalised}
use Rattle.mddocument_laws.proofs.Chosen.{AreOther}
use Rattle.mddocument_rules.proofs.Held.{AreAlone, held}
use Rattle.mddocument_rules.proofs.HeldSections.{sections-found}
use Rattle.mddocument_rules.proofs.HeldSpans.{definitions-are, no-data, spans-calm, spans-read}
use Rattle.mddocument_rules.proofs.HeldStrings.{AreCalm, read, strings-held}
use Rattle.mddocument_rules.proofs.HeldTexts.{is_cell, is_definition, string-other, texts-held}
use Rattle.mddocument_rules.proofs.SpokenDefinitions.{all-told}
use Rattle.mddocument_rules.specs.ReferenceLaws.{DefinitionsAreOfSections, DefinitionsHaveLabels, parts_of_definitions, parts_of_section}

pub definitions-are-of-sections : DefinitionsAreOfSections
definitions-are-of-sections g is =
    let on = g.options.constructs in
    let t = g.tab in
    let ls = lines_in (virtual t g.bytes) in
    let ss : List Section = sections on (rows on ls) in
    let uss : List (List Event) = flat_map (parts_of_section g.bytes) ss in
    let found = sections-found g.bytes ss (document-cut g.bytes on ls (document_lines t g.bytes)) (all-told g.bytes ss (document-sound on ls)) in
    let first : held is_definition false (document_skeleton g) ≡ found.events =
    ap (λ l. held is_definition false (chained_from 0 None l)) (sym (append-nil (sections_marks g.bytes ss))) ∙ found.gives [] [] (λ i previous. refl) 0 None ∙ append-nil found.events in
    let texts : held is_definition false (document_texts g) ≡ found.events = texts-held g is (subst AreAlone (sym first) found.alone) (subst (AreOther is_cell) (sym first) found.celless) ∙ first in
    let calm = subst (AreCalm on t g.bytes is_definition false) (sym texts) (spans-calm on t g.bytes found.events uss found.spans found.quiet) in
    let strings : held is_definition false (document_events g) ≡ read on t g.bytes false found.events =
    strings-held on t g.bytes is_definition no-data (λ e f. string-other on g.bytes (seats_between t g.bytes e.point f.point)) false (document_texts g) false false calm ∙ ap (read on t g.bytes false) texts in
    definitions-are (document_events g) (map (λ (us : List Event). read on t g.bytes false us) uss) (read on t g.bytes false found.events) strings (spans-read on t g.bytes false found.events uss found.spans found.quiet)

-- ---- as many as labels
as-many : (bytes : List ℕ) (ds : List Definition) (xs : List Place) (text : List ℕ) → length (parts_of_definitions bytes ds xs) ≡ length (labels_in ds text)
as-many bytes [] xs text = refl
as-many bytes (d ∷ ds) xs text = ap suc (as-many bytes ds (drop (d.size + 1) xs) (drop (d.size + 1) text))

of-section : (bytes : List ℕ) (part : Part) (inside : Inside)
    → length (parts_of_section bytes (record { part = part; inside = inside })) ≡ length (labels_of_section (record { part = part; inside = inside }))
of-section bytes part (lines is_behind) = refl
of-section bytes part table = refl
of-section bytes part (defined ds) = as-many bytes ds (places_in bytes (all_rows part)) (text_in (all_rows part))

of-sections : (bytes : List ℕ) (ss : List Section) → length (flat_map (parts_of_section bytes) ss) ≡ length (flat_map labels_of_section ss)
of-sections bytes [] = refl
of-sections bytes (s ∷ ss) =
    let one = of-section bytes s.part s.inside in
    let more = of-sections bytes ss in
    let here = length-append (parts_of_section bytes s) (flat_map (parts_of_section bytes) ss) in
    let there = length-append (labels_of_section s) (flat_map labels_of_section ss) in
    omega (arith, one, more, here, there)

pub definitions-have-labels : DefinitionsHaveLabels
definitions-have-labels g is =
    let on = g.options.constructs in
    let ss : List Section = sections on (rows on (lines_in (virtual g.tab g.bytes))) in
    let uss : List (List Event) = flat_map (parts_of_section g.bytes) ss in
    ap (λ (l : List (List Event)). length l) (definitions-are-of-sections g is)
    ∙ length-map uss (with_strings on g.tab g.bytes)
    ∙ of-sections g.bytes ss
    ∙ sym (length-map (flat_map labels_of_section ss) normalised)
