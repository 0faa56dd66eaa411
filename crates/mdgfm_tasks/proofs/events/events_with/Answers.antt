use Rattle.std.proofs.Common.{◌∙◌, ◌+◌, ◌++◌, length, drop, ap, arith}
use Rattle.std.proofs.lemmas.List.{length-drop}
use Rattle.mdgfm_events.proofs.Slices.{tail}
use Rattle.mdgfm_tasks.specs.declared.awaited.Awaited.TheVariants.{Nothing}
use Rattle.mdgfm_tasks.specs.TaskEvents.{events_with}
use Rattle.mdgfm_tasks.proofs.Loops.{check_room, check_step}
use Rattle.mdgfm_tasks.proofs.events.events_with.Goals as goal

pub push_check-requires-clause-room : goal.push_check-requires-clause-room
push_check-requires-clause-room g c =
    check_room c.args.bytes.now c.args.events.now c.loop-at.at _ c.loop-at-test.true c.loop-at.awaited c.in-Some.found c.in-Some.ensures.value

pub loop-at-preserved-in-Some : goal.loop-at-preserved-in-Some
loop-at-preserved-in-Some g c =
    let events = c.args.events.now in
    let bytes = c.args.bytes.now in
    let tab = c.args.tab in
    let at = c.loop-at.at in
    let f = c.in-Some.found in
    let long = ap length (tail at events) ∙ length-drop at events in
    record {
      same = ap (λ ts. ts ++ events_with tab bytes 0 Nothing (drop (at + f.text.size) events)) c.in_ok-push_check-in-Some.ensures
          ∙ check_step bytes events at _ c.loop-at-test.true tab c.loop-at.awaited _ c.loop-at.out.items f c.loop-at.invariant.same c.in-Some.ensures.value c.in-Some.ensures.within.0;
      room = omega (arith, long, c.in-Some.ensures.within.1, c.loop-at-test.true);
    }
