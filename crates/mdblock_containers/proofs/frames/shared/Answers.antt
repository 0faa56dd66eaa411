use Rattle.std.proofs.Common.{sym, ◌∙◌, arith}
use Rattle.mdblock_containers.proofs.FrameLemmas.{shared_more, shared_stops, shared_none, shared_none_behind}
use Rattle.mdblock_containers.proofs.frames.shared.Goals as goal

pub loop-n-preserved : goal.loop-n-preserved
loop-n-preserved g c = record {
  within = omega arith;
  inside = omega arith;
  turns = omega (arith, c.loop-n.invariant.turns, c.add_one.ensures);
  same = c.loop-n.invariant.same ∙ shared_more c.args.fs.now c.args.gs.now c.loop-n.n _ _ c.loop-n-test.true c.if-n-gs.true (sym c.is_same.ensures ∙ c.if-is_same.true);
}

pub returns-else-n-gs-clause-value : goal.returns-else-n-gs-clause-value
returns-else-n-gs-clause-value g c = let none = shared_none_behind c.args.fs.now c.args.gs.now c.loop-n.n (omega arith) in omega (arith, none, c.loop-n.invariant.same)

pub returns-else-is_same-clause-value : goal.returns-else-is_same-clause-value
returns-else-is_same-clause-value g c =
    let none = shared_stops c.args.fs.now c.args.gs.now c.loop-n.n _ _ c.loop-n-test.true c.if-n-gs.true (sym c.is_same.ensures ∙ c.if-is_same.false) in omega (arith, none, c.loop-n.invariant.same)

pub returns-after-loop-n-clause-value : goal.returns-after-loop-n-clause-value
returns-after-loop-n-clause-value g c = let none = shared_none c.args.fs.now c.args.gs.now c.loop-n.n (omega arith) in omega (arith, none, c.loop-n.invariant.same)
