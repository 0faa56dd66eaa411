use Rattle.std.proofs.Common.{◌+◌, ◌-◌, ◌≤◌, arith, length}
use Rattle.mdinline_link_strings.proofs.Together.{front-longer, part-all}
use Rattle.mdinline_link_strings.specs.Reached.{IsDataByte}
use Rattle.mdinline_link_strings.proofs.data.block_size.Goals as goal

pub loop-next-preserved : goal.loop-next-preserved
loop-next-preserved g c =
    let text = c.args.text.now in
    let next = c.loop-next.next in
    let long = c.requires.long in
    let inside : next + 16 ≤ length text = omega (arith, c.loop-next-test.true, long) in
    let one = c.add_one.ensures in
    let few = c.loop-next.invariant.2 in (
      front-longer IsDataByte text 0 next (next + 16) c.loop-next.invariant.0 (part-all IsDataByte text 0 next (next + 16) (omega arith) inside (c.are_data.ensures c.if-not-are_data.false)),
      inside,
      omega (arith, one, few),
    )

pub returns-then-back-clause-each : goal.returns-then-back-clause-each
returns-then-back-clause-each g c = λ k less.
    let text = c.args.text.now in
    let next = c.loop-next.next in
    front-longer IsDataByte text 0 next (length text) c.loop-next.invariant.0
    (λ i low high. part-all IsDataByte text 0 (length text - 16) (length text) (omega arith) (omega arith) (c.are_data-back.ensures c.if-back.true) i (let past = c.loop-next-test.false in omega (arith, past, low)) high) k less
