use Rattle.std.proofs.Common.{◌≡◌, length, subst, sym, arith}
use Rattle.mdblock_containers.proofs.AheadLemmas.{rows_length}
use Rattle.mdblock_table_marks.specs.TableCuts.{before_table}
use Rattle.mdblock_definitions.specs.Sections.{is_in_table}
use Rattle.mdblock_definitions.specs.Seen.{AreSections}
use Rattle.mdblock_definitions.specs.Skeleton.{all_rows}
use Rattle.mdblock_definitions.proofs.SectionCosts.{bytes-some}
use Rattle.mdblock_definitions.proofs.SectionSound.{cut-filled, cut-tabled}
use Rattle.mdblock_definitions.proofs.Uncut.{found-none}
use Rattle.mdblock_definitions.proofs.sections.cut_part.Goals as goal

pub sections_with_tables-requires : goal.sections_with_tables-requires
sections_with_tables-requires g c = record { all = all_rows g.part; are = c.requires.1.0 }

pub find_defined-requires : goal.find_defined-requires
find_defined-requires g c = record { all = all_rows g.part; are = c.requires.1.0 }

pub sections_from-requires : goal.sections_from-requires
sections_from-requires g c = record {
  held = record { all = all_rows g.part; are = c.requires.1.0 };
  some = omega (arith, rows_length c.args.rows.now (all_rows g.part) c.requires.1.0.rows);
  within = c.in_ok-found.ensures.within;
  first = c.in_ok-found.ensures.found;
}

pub returns-then-before-rows-clause-cut : goal.returns-then-before-rows-clause-cut
returns-then-before-rows-clause-cut g c = subst (AreSections c.in_ok-tabled.tabled.items) (sym (cut-tabled c.args.on.now g.part c.requires.1.1.0)) (c.in_ok-tabled.ensures.sections (all_rows g.part) c.requires.1.0 g.part)

-- a part in which nothing is defined
pub returns-then-found-rows-clause-cut : goal.returns-then-found-rows-clause-cut
returns-then-found-rows-clause-cut g c =
    let all = all_rows g.part in
    let none : before_table is_in_table all ≡ length all = omega (arith, c.lines_before_table-before.ensures.value all c.requires.1.0.rows, c.lines_before_table-before.ensures.within, c.if-before-rows.false, rows_length c.args.rows.now all c.requires.1.0.rows) in
    found-none c.args.on.now g.part c.args.tab c.args.bytes.now c.args.rows.now c.in_ok-found.found c.requires.1.0 c.in_ok-found.ensures.found c.if-found-rows.true c.requires.1.1.0 (λ filled. c.requires.1.1.1) none

pub returns-clause-cut : goal.returns-clause-cut
returns-clause-cut g c =
    let all = all_rows g.part in
    let none : before_table is_in_table all ≡ length all = omega (arith, c.lines_before_table-before.ensures.value all c.requires.1.0.rows, c.lines_before_table-before.ensures.within, c.if-before-rows.false, rows_length c.args.rows.now all c.requires.1.0.rows) in
    subst (AreSections c.in_ok-sections.sections.items) (sym (cut-filled c.args.on.now g.part c.requires.1.1.0 none)) (c.in_ok-sections.ensures.sections all c.requires.1.0 g.part)

pub returns-then-before-rows-clause-turns : goal.returns-then-before-rows-clause-turns
returns-then-before-rows-clause-turns g c = omega (arith, bytes-some c.args.tab c.args.bytes.now c.args.rows.now, c.lines_before_table-before.ensures.turns, c.sections_with_tables.ensures.turns)

pub returns-in_err-tabled-clause-turns : goal.returns-in_err-tabled-clause-turns
returns-in_err-tabled-clause-turns g c = omega (arith, bytes-some c.args.tab c.args.bytes.now c.args.rows.now, c.lines_before_table-before.ensures.turns, c.sections_with_tables.ensures.turns)

pub returns-in_err-found-clause-turns : goal.returns-in_err-found-clause-turns
returns-in_err-found-clause-turns g c = omega (arith, bytes-some c.args.tab c.args.bytes.now c.args.rows.now, c.lines_before_table-before.ensures.turns, c.find_defined.ensures.turns)

pub returns-then-found-rows-clause-turns : goal.returns-then-found-rows-clause-turns
returns-then-found-rows-clause-turns g c = omega (arith, bytes-some c.args.tab c.args.bytes.now c.args.rows.now, c.lines_before_table-before.ensures.turns, c.find_defined.ensures.turns)

pub returns-in_err-sections-clause-turns : goal.returns-in_err-sections-clause-turns
returns-in_err-sections-clause-turns g c = omega (arith, bytes-some c.args.tab c.args.bytes.now c.args.rows.now, c.lines_before_table-before.ensures.turns, c.in_ok-found.ensures.paid, c.sections_from.ensures.turns)

pub returns-clause-turns : goal.returns-clause-turns
returns-clause-turns g c = omega (arith, bytes-some c.args.tab c.args.bytes.now c.args.rows.now, c.lines_before_table-before.ensures.turns, c.in_ok-found.ensures.paid, c.sections_from.ensures.turns)
