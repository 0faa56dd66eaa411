use Rattle.std.proofs.Common.{◌≡◌, ◌+◌, ◌++◌, List, length, take, drop, map, length-drop, length-take, ap, sym, ◌∙◌, arith}
use Rattle.std.proofs.lemmas.List.{drop-map}
use Rattle.markdown_base.specs.declared.event.Event.{Event}
use Rattle.mdblock_containers.specs.declared.frames.Frame.{Frame}
use Rattle.mdblock_containers.specs.Frames.{frame_of}
use Rattle.mdblock_containers.specs.Rest.{exits_to}
use Rattle.mdblock_containers.specs.SeatPlaces.{events_of}
use Rattle.mdblock_containers.specs.Skeleton.{shared}
use Rattle.mdblock_containers.proofs.FrameLemmas.{exits_same}
use Rattle.mdblock_containers.proofs.frames.exit_others.Goals as goal

pub returns : goal.returns
returns g c =
    let fs = c.args.frames.now in
    let kept = c.args.kept in
    let open_frames = take c.args.opened fs in
    let place = c.args.place in
    let all : c.first_frames-all.result.now ≡ open_frames = c.first_frames-all.ensures in
    let rest : map frame_of c.behind_frames.result.now ≡ drop kept (map frame_of open_frames) = ap (map frame_of) (c.behind_frames.ensures ∙ ap (drop kept) all) ∙ sym (drop-map frame_of kept open_frames) in
    let next : map frame_of c.behind_frames-2.result.now ≡ map frame_of (drop c.args.opened fs) = ap (map frame_of) c.behind_frames-2.ensures in
    let more : c.shared-more.result ≡ shared (drop kept (map frame_of open_frames)) (map frame_of (drop c.args.opened fs)) = c.shared-more.ensures.value ∙ (λ k. shared (rest k) (next k)) in
    let exits = c.in_ok-exit_all.ensures.events in
    record {
      events =
          exits
          ∙ ap (λ (l : List Event). c.args.events.now.items ++ l)
          (exits_same place c.behind_frames-3.result.now ∙ ap (λ (l : List Frame). events_of (exits_to (map frame_of l) place)) (c.behind_frames-3.ensures ∙ ap (drop (kept + c.shared-more.result)) all)
          ∙ ap (λ l. events_of (exits_to l place)) (sym (drop-map frame_of (kept + c.shared-more.result) open_frames))
          ∙ ap (λ n. events_of (exits_to (drop (kept + n) (map frame_of open_frames)) place)) more);
      turns =
          let size = ap (λ (l : List Frame). length l) c.first_frames-all.ensures ∙ length-take c.args.opened fs in
          let left = ap (λ (l : List Frame). length l) c.behind_frames-3.ensures ∙ length-drop (kept + c.shared-more.result) c.first_frames-all.result.now in
          let few = ap (λ (l : List Frame). length l) c.behind_frames.ensures ∙ length-drop kept c.first_frames-all.result.now in
          omega (arith, c.shared-more.ensures.turns, c.shared-more.ensures.few, c.exit_all.ensures.turns, size, left, few, c.requires.kept, c.requires.opened);
    }
