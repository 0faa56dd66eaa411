use Rattle.std.proofs.Common.{◌≡◌, ◌<◌, ◌+◌, ◌-◌, ◌++◌, List, [], ap, arith, drop, length, length-drop, refl, subst, sym, take, ◌∙◌, false}
use Rattle.std.specs.List.{flat_map}
use Rattle.std.proofs.lemmas.List.{drop-drop, drop_all, length-take-le}
use Rattle.mdblock_containers.proofs.AheadLemmas.{rows_length}
use Rattle.mdblock_table_marks.specs.TableCuts.{cut_at_tables}
use Rattle.mdblock_definitions.specs.declared.sections.Section.{Section as CodeSection}
use Rattle.mdblock_definitions.specs.Sections.{is_in_table, sections_in, sections_of_cut}
use Rattle.mdblock_definitions.specs.Seen.{AreSections}
use Rattle.mdblock_definitions.proofs.SectionLemmas.{next-line, sections-both, these-first}
use Rattle.mdblock_definitions.proofs.TableScans.{has-pair, has-piece, tables-end, tables-init, tables-more}
use Rattle.mdblock_definitions.proofs.sections.sections_with_tables.Goals as goal

pub loop-i-init : goal.loop-i-init
loop-i-init g c = record {
  within = omega arith;
  paid = omega arith;
  cut = λ all these around. tables-init c.args.on.now around c.new-sections.result.items all c.new-sections.ensures.items;
}

pub sections_of-requires : goal.sections_of-requires
sections_of-requires g c =
    let i = c.loop-i.i in
    let n = c.lines_before_table.result in
    record { all = take n (drop i c.requires.all); are = these-first c.args.tab c.args.bytes.now c.args.rows.now c.requires.all i n (i + n) refl c.requires.are }

pub loop-i-preserved : goal.loop-i-preserved
loop-i-preserved g c =
    let t = c.args.tab in
    let bytes = c.args.bytes.now in
    let on = c.args.on.now in
    let rows = c.args.rows.now in
    let i = c.loop-i.i in
    let n = c.lines_before_table.result in
    let m = c.lines_of_table.result in
    let front = has-piece t bytes rows i n c.loop-i.invariant.within c.lines_before_table.ensures.within in
    let table = has-piece t bytes rows (i + n) m front.within c.lines_of_table.ensures.within in
    let pair = has-pair t bytes rows c.requires.all i n m c.requires.are c.loop-i-test.true c.lines_before_table.ensures.value c.lines_of_table.ensures.value in
    record {
      within = table.within;
      paid = omega (arith, c.loop-i.invariant.paid, c.add_one.ensures, c.lines_before_table.ensures.few, c.sections_of.ensures.turns, c.lines_of_table.ensures.turns, front.some, front.paid, table.some, table.paid, pair.some);
      cut = λ all these around.
          let left = drop i all in
          let here = next-line rows all i these.rows c.loop-i-test.true in
          let both = has-pair t bytes rows all i n m these c.loop-i-test.true c.lines_before_table.ensures.value c.lines_of_table.ensures.value in
          let next : drop ((i + n) + m) all ≡ drop m (drop n left) = sym (drop-drop m (i + n) all) ∙ ap (drop m) (sym (drop-drop n i all)) in
          let first = these-first t bytes rows all i n (i + n) refl these in
          let many : length (take m (drop n left)) ≡ (i + n + m) - (i + n) =
          length-take-le m (drop n left) (omega (arith, table.within, rows_length rows all these.rows, length-drop i all, length-drop n left)) ∙ omega arith in
          tables-more on around c.loop-i.sections.items c.push_table.new.sections.items n m left (drop ((i + n) + m) all) (drop (i + 1) all) here.row (flat_map (sections_of_cut on around) (cut_at_tables is_in_table (length all) all)) here.rest both.before both.lines next both.some
          (λ front are.
          let plain = sections_in on (length (take n left)) false around (take n left) in
          let found : AreSections c.in_ok-found.found.items plain = c.in_ok-found.ensures.sections (take n left) first around in
          let more : AreSections c.append.new.self.items (front ++ plain) =
          subst (λ (l : List CodeSection). AreSections l (front ++ plain)) (sym c.in_ok-append.ensures.items) (sections-both c.loop-i.sections.items c.in_ok-found.found.items front plain are found) in
          c.in_ok-push_table.ensures around (take m (drop n left)) many (front ++ plain) more)
          (c.loop-i.invariant.cut all these around);
    }

pub returns-clause-sections : goal.returns-clause-sections
returns-clause-sections g c = λ all these around.
    let none : drop c.loop-i.i all ≡ [] = drop_all c.loop-i.i all (omega (arith, rows_length c.args.rows.now all these.rows)) in
    tables-end c.args.on.now around c.loop-i.sections.items (drop c.loop-i.i all) (flat_map (sections_of_cut c.args.on.now around) (cut_at_tables is_in_table (length all) all)) none (c.loop-i.invariant.cut all these around)

pub returns-in_err-found-clause-turns : goal.returns-in_err-found-clause-turns
returns-in_err-found-clause-turns g c =
    let front = has-piece c.args.tab c.args.bytes.now c.args.rows.now c.loop-i.i c.lines_before_table.result c.loop-i.invariant.within c.lines_before_table.ensures.within in
    omega (arith, c.loop-i.invariant.paid, c.add_one.ensures, c.lines_before_table.ensures.few, c.sections_of.ensures.turns, front.some, front.paid, front.left, c.loop-i-test.true)

pub returns-in_err-append-clause-turns : goal.returns-in_err-append-clause-turns
returns-in_err-append-clause-turns g c =
    let front = has-piece c.args.tab c.args.bytes.now c.args.rows.now c.loop-i.i c.lines_before_table.result c.loop-i.invariant.within c.lines_before_table.ensures.within in
    omega (arith, c.loop-i.invariant.paid, c.add_one.ensures, c.lines_before_table.ensures.few, c.sections_of.ensures.turns, front.some, front.paid, front.left, c.loop-i-test.true)

pub returns-in_err-push_table-clause-turns : goal.returns-in_err-push_table-clause-turns
returns-in_err-push_table-clause-turns g c =
    let rows = c.args.rows.now in
    let i = c.loop-i.i in
    let n = c.lines_before_table.result in
    let front = has-piece c.args.tab c.args.bytes.now rows i n c.loop-i.invariant.within c.lines_before_table.ensures.within in
    let table = has-piece c.args.tab c.args.bytes.now rows (i + n) c.lines_of_table.result front.within c.lines_of_table.ensures.within in
    omega (arith, c.loop-i.invariant.paid, c.add_one.ensures, c.lines_before_table.ensures.few, c.sections_of.ensures.turns, c.lines_of_table.ensures.turns, front.some, front.paid, front.left, table.within, c.loop-i-test.true)

pub loop-i-smaller : goal.loop-i-smaller
loop-i-smaller g c =
    let i = c.loop-i.i in
    let n = c.lines_before_table.result in
    let m = c.lines_of_table.result in
    let pair = has-pair c.args.tab c.args.bytes.now c.args.rows.now c.requires.all i n m c.requires.are c.loop-i-test.true c.lines_before_table.ensures.value c.lines_of_table.ensures.value in
    let less : length c.args.rows.now - (i + n + m) < length c.args.rows.now - i = omega (arith, pair.some, c.loop-i-test.true) in
    less
