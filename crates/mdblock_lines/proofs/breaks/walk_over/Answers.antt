-- A byte more is a step of the walk.
use Rattle.std.proofs.Common.{◌∙◌, sym, arith, refl}
use Rattle.mdblock_lines.proofs.BreakLemmas.{walk_start, walk_step, step_counts, walk_end, walk_all}
use Rattle.mdblock_lines.proofs.breaks.walk_over.Goals as goal

pub loop-n-init : goal.loop-n-init
loop-n-init g c = record { same = walk_start c.args.t.now; reach = refl; marks = omega arith; turns = omega arith }

pub returns-in-None-clause-value : goal.returns-in-None-clause-value
returns-in-None-clause-value g c = let i = c.loop-n.invariant in walk_end c.args.t.now c.loop-n.n c.loop-n.w (omega arith) i.same i.reach (sym c.in-None.is ∙ c.with_byte.ensures)

pub loop-n-preserved : goal.loop-n-preserved
loop-n-preserved g c =
    let i = c.loop-n.invariant in
    let longer = sym c.in-Some.is ∙ c.with_byte.ensures in
    let counts = step_counts c.args.t.now c.loop-n.n c.loop-n.w (omega arith) i.same i.reach c.in-Some.longer i.marks longer in
    record {
      same = walk_step c.args.t.now c.loop-n.n c.loop-n.w (omega arith) i.same i.reach c.in-Some.longer longer;
      reach = counts.0;
      marks = counts.1;
      turns = omega (arith, i.turns, c.add_one.ensures);
    }

pub returns-clause-value : goal.returns-clause-value
returns-clause-value g c = walk_all c.args.t.now c.loop-n.n c.loop-n.w (omega arith) c.loop-n.invariant.same
