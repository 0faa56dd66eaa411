use Rattle.std.proofs.Common.{◌≡◌, ◌+◌, ◌≤◌, false, arith, length}
use Rattle.markdown_base.specs.declared.event.Event.{Event}
use Rattle.mdinline_link_strings.proofs.Together.{front-longer, part-all}
use Rattle.mdinline_link_strings.specs.Strings.{is_string}
use Rattle.mdinline_link_strings.proofs.names.blocks_outside.Goals as goal

pub loop-next-preserved : goal.loop-next-preserved
loop-next-preserved g c =
    let events = c.args.events.now in
    let next = c.loop-next.next in
    let inside : next + 8 ≤ length events = omega (arith, c.loop-next-test.true) in
    let one = c.add_one.ensures in
    let few = c.loop-next.invariant.2 in (
      λ d.
          front-longer (λ (e : Event). is_string e.name ≡ false) events d next (next + 8) (c.loop-next.invariant.0 d)
          (part-all (λ (e : Event). is_string e.name ≡ false) events d next (next + 8) (omega arith) inside (c.has_string.ensures c.if-has_string.false d)),
      inside,
      omega (arith, one, few),
    )
