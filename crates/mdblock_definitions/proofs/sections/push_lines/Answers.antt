use Rattle.std.proofs.Common.{◌≡◌, ◌+◌, [], ap, arith, drop, refl, sym, ◌∙◌, ◌++◌}
use Rattle.std.specs.Prelude.{◌&&◌}
use Rattle.std.proofs.lemmas.List.{drop-drop, drop_all}
use Rattle.mdblock_containers.proofs.AheadLemmas.{rows_length}
use Rattle.mdblock_definitions.specs.Sections.{undefined}
use Rattle.mdblock_definitions.proofs.SectionLemmas.{begins-is, line-at, pushed-end, pushed-init, pushed-more}
use Rattle.mdblock_definitions.proofs.sections.push_lines.Goals as goal

pub loop-i-init : goal.loop-i-init
loop-i-init g c = record {
  within = omega arith;
  turns = omega arith;
  pushed = λ all are around before are_before. pushed-init c.args.sections.now.items before all around c.args.is_behind c.begins_behind-behind.result are_before (c.begins_behind-behind.ensures ∙ ap (λ b. c.args.is_behind && b) (begins-is c.args.rows.now all are));
}

pub overflow_add-i : goal.overflow_add-i
overflow_add-i g c =
    let some = c.requires.some in
    let line = line-at c.args.rows.now c.args.aheads.now some.all c.loop-i.i c.index-rows-i.result c.lines_of-further.result some.are c.loop-i-test.true c.index-rows-i.is (c.requires.aheads some.all some.are) c.lines_of-further.ensures in
    omega (arith, line.few)

pub overflow_add-i-in-loop-i : goal.overflow_add-i-in-loop-i
overflow_add-i-in-loop-i g c =
    let some = c.requires.some in
    let line = line-at c.args.rows.now c.args.aheads.now some.all c.loop-i.i c.index-rows-i.result c.lines_of-further.result some.are c.loop-i-test.true c.index-rows-i.is (c.requires.aheads some.all some.are) c.lines_of-further.ensures in
    omega (arith, line.few)

pub loop-i-preserved : goal.loop-i-preserved
loop-i-preserved g c =
    let rows = c.args.rows.now in
    let i = c.loop-i.i in
    let n = c.lines_of-further.result in
    let some = c.requires.some in
    let line = line-at rows c.args.aheads.now some.all i c.index-rows-i.result n some.are c.loop-i-test.true c.index-rows-i.is (c.requires.aheads some.all some.are) c.lines_of-further.ensures in
    record {
      within = line.few;
      turns = omega (arith, c.loop-i.invariant.turns, c.add_one.ensures);
      pushed = λ all are around before are_before.
          let here = line-at rows c.args.aheads.now all i c.index-rows-i.result n are c.loop-i-test.true c.index-rows-i.is (c.requires.aheads all are) c.lines_of-further.ensures in
          let on : i + 1 + n ≡ i + (1 + n) = omega arith in
          let next : drop (i + (1 + n)) all ≡ drop n (drop (i + 1) all) = ap (λ k. drop k all) (sym on) ∙ sym (drop-drop n (i + 1) all) in
          pushed-more c.loop-i.sections.items c.push.new.self.items _ c.loop-i.behind n here.row (drop (i + 1) all) (drop i all) (drop (i + (1 + n)) all) around (before ++ undefined c.args.is_behind around all)
          c.in_ok-push.ensures.items here.rest here.size next refl c.lines_inside-inside.ensures (c.loop-i.invariant.pushed all are around before are_before);
    }

pub returns-clause-sections : goal.returns-clause-sections
returns-clause-sections g c = λ all are around before are_before.
    let none : drop c.loop-i.i all ≡ [] = drop_all c.loop-i.i all (omega (arith, rows_length c.args.rows.now all are)) in
    pushed-end c.loop-i.sections.items c.loop-i.behind (drop c.loop-i.i all) around (before ++ undefined c.args.is_behind around all) none (c.loop-i.invariant.pushed all are around before are_before)
