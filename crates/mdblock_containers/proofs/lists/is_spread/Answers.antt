use Rattle.std.proofs.Common.{◌+◌, ◌<◌, length, drop, get_or, cond, sym, ap, ◌∙◌, arith}
use Rattle.std.specs.Prelude.{◌==◌}
use Rattle.std.proofs.lemmas.List.{at_drop_more}
use Rattle.markdown_base.proofs.SliceLemmas.{filler}
use Rattle.mdblock_containers.specs.ListWalks.{known_next}
use Rattle.mdblock_containers.proofs.ListLemmas.{spread_from, spread_step}
use Rattle.mdblock_containers.proofs.lists.is_spread.Goals as goal

pub loop-event-preserved : goal.loop-event-preserved
loop-event-preserved c =
    let names = c.args.names.now in
    let events = c.args.events.now in
    let i = c.loop-event.event-index in
    let e = get_or events i filler in
    let rest = drop (i + 1) events in
    let h : i < length events = omega arith in
    let found = sym c.is_found.ensures ∙ c.if-is_found.false in
    record {
      same =
          ap (λ k. spread_from names k c.depth_next-depth.result rest) c.known_behind-known.ensures
          ∙ ap (λ d. spread_from names (cond (c.in-Some.around == 0) (known_next names c.loop-event.known e) c.loop-event.known) d rest) c.depth_next-depth.ensures.value
          ∙ sym (at_drop_more (spread_from names c.loop-event.known c.loop-event.depth) events i filler h ∙ spread_step names e rest c.loop-event.known c.loop-event.depth c.in-Some.around (sym c.in-Some.ensures.value) found)
          ∙ c.loop-event.invariant.same;
      room = omega (arith, c.in-Some.ensures.few, c.depth_next-depth.ensures.few);
    }
