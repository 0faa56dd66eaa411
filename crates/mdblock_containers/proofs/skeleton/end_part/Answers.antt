use Rattle.std.proofs.Common.{◌≡◌, ◌+◌, List, ◌++◌, length, take, drop, map, length-drop, length-take, ap, sym, ◌∙◌, append_assoc, arith}
use Rattle.std.proofs.lemmas.List.{drop-map}
use Rattle.markdown_base.specs.declared.event.Event.{Event}
use Rattle.mdblock_containers.specs.declared.frames.Frame.{Frame}
use Rattle.mdblock_containers.specs.Frames.{exits_at, frame_of}
use Rattle.mdblock_containers.specs.Parts.{ending_at}
use Rattle.mdblock_containers.specs.Rest.{exits_to}
use Rattle.mdblock_containers.specs.SeatPlaces.{events_of}
use Rattle.mdblock_containers.specs.Skeleton.{shared}
use Rattle.mdblock_containers.proofs.DocumentRows.{take_of_take}
use Rattle.mdblock_containers.proofs.FrameLemmas.{exits_same, ending_same}
use Rattle.mdblock_containers.proofs.skeleton.end_part.Goals as goal

pub behind_frames-requires : goal.behind_frames-requires
behind_frames-requires g c = omega (arith, c.requires, ap (λ (l : List Frame). length l) c.as_slice.ensures.value)

pub exit_frames-requires : goal.exit_frames-requires
exit_frames-requires g c =
    let rest : length c.behind_frames.result.now ≡ length (drop c.args.kept c.args.frames.now.items) = ap (λ (l : List Frame). length l) (c.behind_frames.ensures ∙ ap (drop c.args.kept) c.as_slice.ensures.value) in
    omega (arith, c.requires, c.shared-more.ensures.few, rest, length-drop c.args.kept c.args.frames.now.items)

pub returns : goal.returns
returns g c =
    let fs = c.args.frames.now.items in
    let kept = c.args.kept in
    let place = c.args.end.place in
    let rest : map frame_of c.behind_frames.result.now ≡ drop kept (map frame_of fs) = ap (map frame_of) (c.behind_frames.ensures ∙ ap (drop kept) c.as_slice.ensures.value) ∙ sym (drop-map frame_of kept fs) in
    let more : c.shared-more.result ≡ shared (drop kept (map frame_of fs)) (map frame_of c.args.next.now) = c.shared-more.ensures.value ∙ ap (λ l. shared l (map frame_of c.args.next.now)) rest in
    let many = kept + c.shared-more.result in
    let exits : exits_at place (drop many fs) ≡ events_of (exits_to (drop (kept + shared (drop kept (map frame_of fs)) (map frame_of c.args.next.now)) (map frame_of fs)) place) =
    exits_same place (drop many fs) ∙ ap (λ l. events_of (exits_to l place)) (sym (drop-map frame_of many fs)) ∙ ap (λ n. events_of (exits_to (drop (kept + n) (map frame_of fs)) place)) more in
    record {
      events =
          c.in_ok-write_ending.ensures ∙ ap (λ (l : List Event). l ++ ending_at c.args.end) c.in_ok-exit_frames.ensures.events
          ∙ append_assoc c.args.events.now.items (exits_at place (drop many fs)) (ending_at c.args.end)
          ∙ (λ k. c.args.events.now.items ++ (exits k ++ ending_same c.args.end k));
      frames = ap (take kept) c.in_ok-exit_frames.ensures.frames ∙ take_of_take kept many fs (omega (arith, c.requires, length-take many fs));
      turns = omega (arith, c.shared-more.ensures.turns, c.exit_frames.ensures.turns);
    }
