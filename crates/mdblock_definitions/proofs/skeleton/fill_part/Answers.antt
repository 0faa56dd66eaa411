use Rattle.std.proofs.Common.{◌<◌, ◌++◌, ℕ, List, map, subst, sym, ap, ◌∙◌, arith}
use Rattle.std.specs.Prelude.{◌||◌, None, false}
use Rattle.std.specs.List.{flat_map}
use Rattle.std.proofs.lemmas.List.{append-nil}
use Rattle.std.proofs.lemmas.Option.{MatchOption-at_none, MatchOption-at_some}
use Rattle.mdblock_containers.specs.declared.spans.RowAt.{RowAt}
use Rattle.mdblock_containers.specs.Views.{open_of}
use Rattle.mdblock_containers.specs.Written.{Written}
use Rattle.mdinline_labels.specs.Defined.{defines}
use Rattle.mdblock_definitions.specs.declared.sections.Section.{Section as CodeSection}
use Rattle.mdblock_definitions.specs.Labelled.{is_one_of}
use Rattle.mdblock_definitions.specs.Sectioned.{HasEnd, inside_from}
use Rattle.mdblock_definitions.specs.Sections.{Section, cut, lines}
use Rattle.mdblock_definitions.specs.Seen.{AreSections, AreThese}
use Rattle.mdblock_definitions.specs.Skeleton.{all_rows, labels_of_section, letters_of_section}
use Rattle.mdblock_definitions.specs.Within.{last_of}
use Rattle.mdblock_definitions.proofs.SectionFacts.{section-these}
use Rattle.mdblock_definitions.proofs.SectionSound.{cut-blank, cut-sections}
use Rattle.mdblock_definitions.proofs.SectionLoop.{first-begun, has-end}
use Rattle.mdblock_definitions.proofs.Sectioned.{blank-is}
use Rattle.mdblock_definitions.proofs.skeleton.fill_part.Goals as goal

pub returns-then-is_blank-clause-end : goal.returns-then-is_blank-clause-end
returns-then-is_blank-clause-end g c =
    let some : 0 < c.args.tab = omega (arith, c.get-tab_size.ensures.least, c.get-tab_size.ensures.columns) in
    let section = c.requires.1.1.1.0 in
    let blank = sym (blank-is c.args.tab c.args.bytes.now some c.requires.1.0 (map open_of c.args.stack.now) c.args.first.now c.args.more.now g.part section) ∙ c.if-is_blank.true in
    subst (λ (l : List Section). HasEnd c.args.bytes.now (last_of g.part l) c.in_ok-only.only) (sym (cut-blank c.args.on.now g.part blank))
    (has-end c.args.tab c.args.bytes.now some c.requires.1.0 (map open_of c.args.stack.now) c.args.first.now c.args.more.now g.part section c.in_ok-only.only c.in_ok-only.ensures.end)

pub returns-then-is_blank-clause-events : goal.returns-then-is_blank-clause-events
returns-then-is_blank-clause-events g c = λ rest all w.
    let some : 0 < c.args.tab = omega (arith, c.get-tab_size.ensures.least, c.get-tab_size.ensures.columns) in
    let blank = sym (blank-is c.args.tab c.args.bytes.now some c.requires.1.0 (map open_of c.args.stack.now) c.args.first.now c.args.more.now g.part c.requires.1.1.1.0) ∙ c.if-is_blank.true in
    c.in_ok-only.ensures.events rest all (subst (λ (l : List Section). Written c.args.skeleton.now.events.items None false (inside_from c.args.bytes.now l rest) all) (cut-blank c.args.on.now g.part blank) w)

pub returns-then-is_blank-clause-letters : goal.returns-then-is_blank-clause-letters
returns-then-is_blank-clause-letters g c =
    let some : 0 < c.args.tab = omega (arith, c.get-tab_size.ensures.least, c.get-tab_size.ensures.columns) in
    let blank = sym (blank-is c.args.tab c.args.bytes.now some c.requires.1.0 (map open_of c.args.stack.now) c.args.first.now c.args.more.now g.part c.requires.1.1.1.0) ∙ c.if-is_blank.true in
    c.in_ok-only.ensures.letters ∙ ap (λ (l : List ℕ). c.args.skeleton.now.letters.items ++ l) (sym (append-nil (letters_of_section c.args.on.now (record { part = g.part; inside = lines false }))))
    ∙ ap (λ (l : List Section). c.args.skeleton.now.letters.items ++ flat_map (letters_of_section c.args.on.now) l) (sym (cut-blank c.args.on.now g.part blank))

pub returns-then-is_blank-clause-labels : goal.returns-then-is_blank-clause-labels
returns-then-is_blank-clause-labels g c = λ label.
    let some : 0 < c.args.tab = omega (arith, c.get-tab_size.ensures.least, c.get-tab_size.ensures.columns) in
    let blank = sym (blank-is c.args.tab c.args.bytes.now some c.requires.1.0 (map open_of c.args.stack.now) c.args.first.now c.args.more.now g.part c.requires.1.1.1.0) ∙ c.if-is_blank.true in
    c.in_ok-only.ensures.labels label ∙ ap (λ (l : List Section). defines c.args.skeleton.now.labels label || is_one_of (flat_map labels_of_section l) label) (sym (cut-blank c.args.on.now g.part blank))

pub cut_part-requires : goal.cut_part-requires
cut_part-requires g c = λ lifetimes outlives.
    let t = c.args.tab in
    let bytes = c.args.bytes.now in
    let stack = map open_of c.args.stack.now in
    let some : 0 < t = omega (arith, c.get-tab_size.ensures.least, c.get-tab_size.ensures.columns) in
    let section = c.requires.1.1.1.0 in
    let filled = sym (blank-is t bytes some c.requires.1.0 stack c.args.first.now c.args.more.now g.part section) ∙ c.if-is_blank.false in
    (outlives, (subst (λ (l : List RowAt). AreThese t bytes l (all_rows g.part)) (sym c.requires.1.1.0) (section-these t bytes stack c.args.first.now c.args.more.now g.part section), (filled, c.requires.1.1.1.1.1.0 filled)))

-- a part that is one section
pub returns-in_ok-only-in-None-clause-end : goal.returns-in_ok-only-in-None-clause-end
returns-in_ok-only-in-None-clause-end g c =
    let some : 0 < c.args.tab = omega (arith, c.get-tab_size.ensures.least, c.get-tab_size.ensures.columns) in
    subst (λ (l : List Section). HasEnd c.args.bytes.now (last_of g.part l) c.in_ok-only-in-None.only) (sym (MatchOption-at_none _ _ c.in-None.is c.in_ok-found.ensures.cut))
    (has-end c.args.tab c.args.bytes.now some c.requires.1.0 (map open_of c.args.stack.now) c.args.first.now c.args.more.now g.part c.requires.1.1.1.0 c.in_ok-only-in-None.only c.in_ok-only-in-None.ensures.end)

pub returns-in_ok-only-in-None-clause-events : goal.returns-in_ok-only-in-None-clause-events
returns-in_ok-only-in-None-clause-events g c = λ rest all w.
    c.in_ok-only-in-None.ensures.events rest all (subst (λ (l : List Section). Written c.args.skeleton.now.events.items None false (inside_from c.args.bytes.now l rest) all) (MatchOption-at_none _ _ c.in-None.is c.in_ok-found.ensures.cut) w)

pub returns-in_ok-only-in-None-clause-letters : goal.returns-in_ok-only-in-None-clause-letters
returns-in_ok-only-in-None-clause-letters g c =
    c.in_ok-only-in-None.ensures.letters ∙ ap (λ (l : List ℕ). c.args.skeleton.now.letters.items ++ l) (sym (append-nil (letters_of_section c.args.on.now (record { part = g.part; inside = lines false }))))
    ∙ ap (λ (l : List Section). c.args.skeleton.now.letters.items ++ flat_map (letters_of_section c.args.on.now) l) (sym (MatchOption-at_none _ _ c.in-None.is c.in_ok-found.ensures.cut))

pub returns-in_ok-only-in-None-clause-labels : goal.returns-in_ok-only-in-None-clause-labels
returns-in_ok-only-in-None-clause-labels g c = λ label.
    c.in_ok-only-in-None.ensures.labels label ∙ ap (λ (l : List Section). defines c.args.skeleton.now.labels label || is_one_of (flat_map labels_of_section l) label) (sym (MatchOption-at_none _ _ c.in-None.is c.in_ok-found.ensures.cut))

pub write_sections-requires : goal.write_sections-requires
write_sections-requires g c = λ lifetimes outlives.
    let t = c.args.tab in
    let bytes = c.args.bytes.now in
    let stack = map open_of c.args.stack.now in
    let all = cut c.args.on.now g.part in
    let some : 0 < t = omega (arith, c.get-tab_size.ensures.least, c.get-tab_size.ensures.columns) in
    let section = c.requires.1.1.1.0 in
    let filled = sym (blank-is t bytes some c.requires.1.0 stack c.args.first.now c.args.more.now g.part section) ∙ c.if-is_blank.false in
    let are = cut-sections c.args.on.now g.part filled c.requires.1.1.1.1.1.1.0 in
    let begun = first-begun t bytes stack c.args.first.now c.args.rows.now c.args.more.now g.part all c.args.begin c.requires.1.1.0 are c.requires.1.1.1.1.1.1.1 in
    (outlives, (c.requires.1.0, (c.requires.1.1.0, (section, (c.requires.1.1.1.1.0 filled, (subst (λ (l : List CodeSection). AreSections l all) (sym c.as_slice.ensures.value) (MatchOption-at_some _ _ c.in-Some.sections c.in-Some.is c.in_ok-found.ensures.cut), (are, begun)))))))

pub returns-in_err-found-clause-turns : goal.returns-in_err-found-clause-turns
returns-in_err-found-clause-turns g c = omega (arith, c.cut_part.ensures.turns)

pub returns-in_err-only-in-None-clause-turns : goal.returns-in_err-only-in-None-clause-turns
returns-in_err-only-in-None-clause-turns g c = omega (arith, c.cut_part.ensures.turns, c.write_section-in-None.ensures.turns)

pub returns-in_ok-only-in-None-clause-turns : goal.returns-in_ok-only-in-None-clause-turns
returns-in_ok-only-in-None-clause-turns g c = omega (arith, c.cut_part.ensures.turns, c.write_section-in-None.ensures.turns)

pub returns-in_err-end-in-Some-clause-turns : goal.returns-in_err-end-in-Some-clause-turns
returns-in_err-end-in-Some-clause-turns g c = omega (arith, c.cut_part.ensures.turns, c.write_sections.ensures.turns)

pub returns-in_ok-end-in-Some-clause-turns : goal.returns-in_ok-end-in-Some-clause-turns
returns-in_ok-end-in-Some-clause-turns g c = omega (arith, c.cut_part.ensures.turns, c.write_sections.ensures.turns)
