use Rattle.std.proofs.Common.{◌+◌, ◌≤◌, arith, length}
use Rattle.mdinline_link_strings.proofs.Together.{front-longer, part-all}
use Rattle.mdinline_link_strings.specs.Reached.{IsDataByte}
use Rattle.mdinline_link_strings.proofs.data.byte_size.Goals as goal

pub loop-next-preserved : goal.loop-next-preserved
loop-next-preserved g c =
    let text = c.args.text.now in
    let next = c.loop-next.next in
    let inside : next + 1 ≤ length text = omega (arith, c.loop-next-test.true) in
    let one = c.add_one.ensures in
    let few = c.loop-next.invariant.2 in (
      front-longer IsDataByte text 0 next (next + 1) c.loop-next.invariant.0 (part-all IsDataByte text 0 next (next + 1) (omega arith) inside (c.are_data.ensures c.if-not-are_data.false)),
      inside,
      omega (arith, one, few),
    )
