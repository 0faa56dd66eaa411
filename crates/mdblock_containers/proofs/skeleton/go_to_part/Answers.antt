use Rattle.std.proofs.Common.{◌≡◌, ◌+◌, ◌≤◌, List, ◌++◌, ◌-◌, ◌*◌, length, take, drop, map, length-append, length-drop, length-take, refl, ap, sym, ◌∙◌, ℕ, arith, append_assoc}
use Rattle.std.specs.List.{flat_map}
use Rattle.std.proofs.lemmas.List.{drop-map, drop_at, length-map, take-map, take_at}
use Rattle.markdown_base.specs.declared.event.Event.{Event}
use Rattle.mdblock_lines.specs.Containers.{Container}
use Rattle.mdblock_containers.specs.declared.frames.Frame.{Frame}
use Rattle.mdblock_containers.specs.declared.going.Open.{Open}
use Rattle.mdblock_containers.specs.Frames.{frame_of, frames_in}
use Rattle.mdblock_containers.specs.Parts.{ending_at}
use Rattle.mdblock_containers.specs.Rest.{exits_to}
use Rattle.mdblock_containers.specs.SeatPlaces.{events_of}
use Rattle.mdblock_containers.specs.Skeleton.{Frame as Span, frames_of, shared}
use Rattle.mdblock_containers.specs.Stood.{HasSpans}
use Rattle.mdblock_containers.specs.Views.{open_of}
use Rattle.mdblock_containers.proofs.CostLemmas.{turned_few}
use Rattle.mdblock_containers.proofs.DocumentRows.{take_of_take}
use Rattle.mdblock_containers.proofs.FrameLemmas.{ending_same}
use Rattle.mdblock_containers.proofs.StoodLemmas.{kept_few, shared_turned, spans_turned, stood_turned}
use Rattle.mdblock_containers.proofs.skeleton.go_to_part.Goals as goal

-- the spans of containers stand behind those that are open
module _ (opened first : List Frame) (stack rest : List Open) (n : ℕ) (size : ℕ) (size_is : size ≡ length opened) (rest_is : rest ≡ drop n stack) (first_is : map frame_of first ≡ map frame_of opened ++ flat_map frames_of (map open_of rest)) where
  abbrev pub added : List Span
  added = flat_map frames_of (drop n (map open_of stack))

  pub behind : map frame_of first ≡ map frame_of opened ++ added
  behind = first_is ∙ ap (λ (l : List Open). map frame_of opened ++ flat_map frames_of (map open_of l)) rest_is ∙ ap (λ (l : List Container). map frame_of opened ++ flat_map frames_of l) (sym (drop-map open_of n stack))

  pub long : length (map frame_of opened) ≡ size
  long = length-map opened frame_of ∙ sym size_is

  pub first_size : length first ≡ size + length added
  first_size = let sum = ap (λ (l : List Span). length l) behind ∙ length-append (map frame_of opened) added in omega (arith, length-map first frame_of, sum, long)

  -- and that of a list behind them
  pub next_spans : (all : List Frame) (list : List Span) → map frame_of all ≡ map frame_of first ++ list → (map frame_of (take size all) ≡ map frame_of opened) × (map frame_of (drop size all) ≡ added ++ list) × (length first ≤ length all)
  next_spans all list all_is =
      let split : map frame_of all ≡ map frame_of opened ++ (added ++ list) = all_is ∙ ap (λ (l : List Span). l ++ list) behind ∙ append_assoc (map frame_of opened) added list in
      let sum = ap (λ (l : List Span). length l) all_is ∙ length-append (map frame_of first) list in (
        sym (take-map frame_of size all) ∙ ap (take size) split ∙ take_at (map frame_of opened) (added ++ list) size long,
        sym (drop-map frame_of size all) ∙ ap (drop size) split ∙ drop_at (map frame_of opened) (added ++ list) size long,
        omega (arith, length-map all frame_of, length-map first frame_of, sum),
      )

pub rest_of-requires : goal.rest_of-requires
rest_of-requires g c = omega (arith, c.requires.stood.few, length-map c.args.stack.now open_of)

pub returns : goal.returns
returns g c =
    let old = c.args.frames.now.items in
    let first = c.push_frames.new.frames.items in
    let all = c.push_list.new.frames.items in
    let new = c.drop_frames.new.frames.items in
    let kept = c.args.kept in
    let stack = map open_of c.args.stack.now in
    let list = frames_in c.args.list in
    let place = c.args.end.place in
    let events = c.args.events.now.items in
    let size = c.len-opened.result in
    let size_is : size ≡ length old = omega (arith, c.len-opened.ensures, c.args.frames.now.ok) in
    let more_is = first_size old first c.args.stack.now c.rest_of.result.now kept.containers size size_is c.rest_of.ensures c.in_ok-push_frames.ensures.value in
    let (open_is, next_is, few) = next_spans old first c.args.stack.now c.rest_of.result.now kept.containers size size_is c.rest_of.ensures c.in_ok-push_frames.ensures.value all list c.in_ok-push_list.ensures in
    let opened = take size all in
    let next = drop size all in
    let has : HasSpans opened kept stack = ap (take kept.spans) open_is ∙ c.requires.spans in
    let kept_fit : kept.spans ≤ length old = kept_few old kept stack c.requires.stood c.requires.spans in
    let cut = length-take size all in
    let front : take kept.spans all ≡ take kept.spans opened = sym (take_of_take kept.spans size all (omega (arith, kept_fit, size_is, cut, few, more_is))) in
    let frames : map frame_of new ≡ flat_map frames_of stack ++ list = spans_turned opened next kept stack list c.requires.stood has next_is all new front c.drop_frames.ensures in
    let many = shared_turned opened next kept stack list c.requires.stood has next_is (map frame_of new) frames in
    let shown : c.as_slice.result.now ≡ all = c.as_slice.ensures.value in
    let exits : c.exit_others.new.events.items ≡ events ++ events_of (exits_to (drop (shared (map frame_of old) (map frame_of new)) (map frame_of old)) place) =
    c.in_ok-exit_others.ensures.events
    ∙ (λ k. events ++ events_of (exits_to (drop (kept.spans + shared (drop kept.spans (map frame_of (take size (shown k)))) (map frame_of (drop size (shown k)))) (map frame_of (take size (shown k)))) place))
    ∙ (λ k. events ++ events_of (exits_to (drop (many k) (map frame_of opened)) place)) ∙ (λ k. events ++ events_of (exits_to (drop (shared (open_is k) (map frame_of new)) (open_is k)) place)) in
    let more : c.len.result - size ≡ length (flat_map frames_of (drop kept.containers stack)) = omega (arith, c.len.ensures, c.push_frames.new.frames.ok, more_is) in
    let entered : length next ≤ 2 * (length stack - kept.containers) + 1 = turned_few next stack kept.containers c.args.list next_is in
    let turned : length new ≡ length (take kept.spans all) + length next = ap (λ (l : List Frame). length l) c.drop_frames.ensures ∙ length-append (take kept.spans all) next in
    let kept_all = length-take kept.spans all in
    let whole = length-map c.args.stack.now open_of in
    let rest : length c.rest_of.result.now ≡ length c.args.stack.now - kept.containers = ap (λ (l : List Open). length l) c.rest_of.ensures ∙ length-drop kept.containers c.args.stack.now in
    record {
      frames = frames;
      events =
          c.in_ok-write_ending.ensures ∙ ap (λ (l : List Event). l ++ ending_at c.args.end) exits
          ∙ append_assoc events (events_of (exits_to (drop (shared (map frame_of old) (map frame_of new)) (map frame_of old)) place)) (ending_at c.args.end)
          ∙ ap (λ (l : List Event). events ++ (events_of (exits_to (drop (shared (map frame_of old) (map frame_of new)) (map frame_of old)) place) ++ l)) (ending_same c.args.end);
      stood = stood_turned kept _ stack (c.len.result - size) c.requires.stood more (sym whole) refl;
      containers = refl;
      paid = omega (arith, entered, turned, kept_all, kept_fit, c.requires.stood.few, whole, c.push_frames.ensures.turns, rest, c.exit_others.ensures.turns, size_is);
      turns = omega (arith, c.push_frames.ensures.turns, rest, c.exit_others.ensures.turns, size_is);
    }

pub overflow_sub-added : goal.overflow_sub-added
overflow_sub-added g c =
    let size_is : c.len-opened.result ≡ length c.args.frames.now.items = omega (arith, c.len-opened.ensures, c.args.frames.now.ok) in
    let more = first_size c.args.frames.now.items c.push_frames.new.frames.items c.args.stack.now c.rest_of.result.now c.args.kept.containers c.len-opened.result size_is c.rest_of.ensures c.in_ok-push_frames.ensures.value in
    omega (arith, c.len.ensures, c.push_frames.new.frames.ok, more)

pub overflow_add-spans : goal.overflow_add-spans
overflow_add-spans g c =
    let kept_fit = kept_few c.args.frames.now.items c.args.kept (map open_of c.args.stack.now) c.requires.stood c.requires.spans in
    omega (arith, kept_fit, c.len-opened.ensures, c.args.frames.now.ok, c.len.ensures, c.push_frames.new.frames.ok)

pub exit_others-requires : goal.exit_others-requires
exit_others-requires g c =
    let size_is : c.len-opened.result ≡ length c.args.frames.now.items = omega (arith, c.len-opened.ensures, c.args.frames.now.ok) in
    let more = first_size c.args.frames.now.items c.push_frames.new.frames.items c.args.stack.now c.rest_of.result.now c.args.kept.containers c.len-opened.result size_is c.rest_of.ensures c.in_ok-push_frames.ensures.value in
    let (open_is, next_is, few) = next_spans c.args.frames.now.items c.push_frames.new.frames.items c.args.stack.now c.rest_of.result.now c.args.kept.containers c.len-opened.result size_is c.rest_of.ensures c.in_ok-push_frames.ensures.value c.push_list.new.frames.items (frames_in c.args.list) c.in_ok-push_list.ensures in
    let kept_fit = kept_few c.args.frames.now.items c.args.kept (map open_of c.args.stack.now) c.requires.stood c.requires.spans in
    let shown = ap (λ (l : List Frame). length l) c.as_slice.ensures.value in
    record { kept = omega (arith, kept_fit, size_is); opened = omega (arith, more, few, shown) }

pub drop_frames-requires : goal.drop_frames-requires
drop_frames-requires g c =
    let size_is : c.len-opened.result ≡ length c.args.frames.now.items = omega (arith, c.len-opened.ensures, c.args.frames.now.ok) in
    let more = first_size c.args.frames.now.items c.push_frames.new.frames.items c.args.stack.now c.rest_of.result.now c.args.kept.containers c.len-opened.result size_is c.rest_of.ensures c.in_ok-push_frames.ensures.value in
    let (open_is, next_is, few) = next_spans c.args.frames.now.items c.push_frames.new.frames.items c.args.stack.now c.rest_of.result.now c.args.kept.containers c.len-opened.result size_is c.rest_of.ensures c.in_ok-push_frames.ensures.value c.push_list.new.frames.items (frames_in c.args.list) c.in_ok-push_list.ensures in
    let kept_fit = kept_few c.args.frames.now.items c.args.kept (map open_of c.args.stack.now) c.requires.stood c.requires.spans in
    record { order = omega (arith, kept_fit, size_is); within = omega (arith, more, few) }
