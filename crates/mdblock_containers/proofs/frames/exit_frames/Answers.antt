use Rattle.std.proofs.Common.{◌<◌, List, length, ap, ◌∙◌, arith}
use Rattle.std.proofs.lemmas.List.{length_push}
use Rattle.mdblock_containers.specs.declared.frames.Frame.{Frame}
use Rattle.mdblock_containers.proofs.FrameLemmas.{frame_enough, frame_front, frame_events, frames_end}
use Rattle.mdblock_containers.proofs.frames.exit_frames.Goals as goal

pub loop-place-preserved : goal.loop-place-preserved
loop-place-preserved g c =
    let i = c.loop-place.invariant in
    let more : c.args.many < length c.loop-place.frames.items = omega (arith, c.len.ensures, c.loop-place.frames.ok) in
    let is = c.in-Some.ensures.items in
    record {
      enough = frame_enough c.args.place c.args.many c.loop-place.frames.items c.pop.new.self.items c.in-Some.frame is more;
      front = frame_front c.args.place c.args.many c.loop-place.frames.items c.pop.new.self.items c.in-Some.frame is more ∙ i.front;
      events = frame_events c.args.place c.args.many c.loop-place.frames.items c.pop.new.self.items c.in-Some.frame is more c.loop-place.events.items c.exit.new.events.items _ c.in_ok-exit.ensures i.events;
      turns = omega (arith, i.turns, c.add_one.ensures, ap (λ (l : List Frame). length l) is, length_push c.pop.new.self.items c.in-Some.frame);
    }

pub returns-in_default : goal.returns-in_default
returns-in_default g c = absurd (omega (arith, c.in_default.ensures.cases.0, c.len.ensures))

pub returns : goal.returns
returns g c =
    let i = c.loop-place.invariant in
    let r = frames_end c.args.place c.args.many c.loop-place.frames.items c.args.frames.now.items c.loop-place.events.items _ (omega (arith, c.len.ensures, c.loop-place.frames.ok)) i.front i.events in
    record { events = r.0; frames = r.1; turns = omega (arith, i.turns, i.enough) }
