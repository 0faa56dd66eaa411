use Rattle.std.proofs.Common.{◌∙◌, ◌<◌, length, arith}
use Rattle.mdblock_containers.proofs.RowLemmas.{open_step}
use Rattle.mdblock_containers.proofs.rows.open_all.Goals as goal

pub loop-prefix-preserved : goal.loop-prefix-preserved
loop-prefix-preserved g c =
    let h : c.loop-prefix.prefix-index < length c.args.begun.now = omega arith in
    record {
      value = open_step c.loop-prefix.stack.items c.push.new.self.items c.args.begun.now c.loop-prefix.prefix-index c.loop-prefix.of_list c.args.number _ h c.in_ok-push.ensures.items ∙ c.loop-prefix.invariant.value;
      turns = omega (arith, c.loop-prefix.invariant.turns, c.add_one.ensures);
    }
