-- Lemmas on the spans in which a part stands, as the code keeps them.
use Rattle.std.proofs.Common.{◌≡◌, ℕ, ◌+◌, ◌-◌, ◌<◌, ◌≤◌, List, [], ◌∷◌, ◌++◌, length, take, drop, map, get_or, sym, ap, ◌∙◌, arith, append_assoc, length-append}
use Rattle.std.specs.List.{flat_map}
use Rattle.std.proofs.lemmas.Grind.{flat_map-append}
use Rattle.std.proofs.lemmas.List.{append-nil, length-map, length-take, map-append, take-append-drop, take-append-le, take-map, take_all, take_at, take_more}
use Rattle.mdblock_lines.specs.Containers.{Container}
use Rattle.mdblock_containers.specs.declared.frames.Frame.{Frame}
use Rattle.mdblock_containers.specs.declared.frames.Stood.{Stood}
use Rattle.mdblock_containers.specs.declared.going.Open.{Open}
use Rattle.mdblock_containers.specs.Frames.{frame_of}
use Rattle.mdblock_containers.specs.Skeleton.{Frame as Span, frames_of, shared}
use Rattle.mdblock_containers.specs.Stood.{HasSpans, IsStood}
use Rattle.mdblock_containers.specs.Views.{open_of}
use Rattle.mdblock_containers.proofs.DocumentRows.{take_of_take}
use Rattle.mdblock_containers.proofs.FrameFacts.{shared_front}

-- the spans of one container more
pub spans_more : (stack : List Open) (n : ℕ) (d : Open) → n < length stack
    → length (flat_map frames_of (take (n + 1) (map open_of stack))) ≡ length (flat_map frames_of (take n (map open_of stack))) + length (frames_of (open_of (get_or stack n d)))
spans_more stack n d h =
    let c = open_of (get_or stack n d) in
    let front : take (n + 1) (map open_of stack) ≡ take n (map open_of stack) ++ c ∷ [] =
    take-map open_of (n + 1) stack ∙ ap (map open_of) (take_more stack n d h) ∙ map-append open_of (take n stack) (get_or stack n d ∷ []) ∙ ap (λ (l : List Container). l ++ c ∷ []) (sym (take-map open_of n stack)) in
    ap (λ (l : List Container). length (flat_map frames_of l)) front ∙ ap (λ (l : List Span). length l) (flat_map-append frames_of (take n (map open_of stack)) (c ∷ []))
    ∙ length-append (flat_map frames_of (take n (map open_of stack))) (frames_of c ++ []) ∙ ap (λ (l : List Span). length (flat_map frames_of (take n (map open_of stack))) + length l) (append-nil (frames_of c))

-- one container less
module _ (s : Stood) (stack : List Open) (is : IsStood s (map open_of stack)) (d : Open) (some : 0 < s.containers) where
  pub stood_inside : s.containers - 1 < length stack
  stood_inside = omega (arith, is.few, length-map stack open_of)

  pub less : s.spans ≡ length (flat_map frames_of (take (s.containers - 1) (map open_of stack))) + length (frames_of (open_of (get_or stack (s.containers - 1) d)))
  less =
      let one : s.containers ≡ (s.containers - 1) + 1 = omega arith in
      is.spans ∙ ap (λ n. length (flat_map frames_of (take n (map open_of stack)))) one ∙ spans_more stack (s.containers - 1) d stood_inside

  pub stood_enough : length (frames_of (open_of (get_or stack (s.containers - 1) d))) ≤ s.spans
  stood_enough = let e = less in omega arith

  pub stood_less : (spans : ℕ) → spans ≡ s.spans - length (frames_of (open_of (get_or stack (s.containers - 1) d))) → IsStood (record { containers = s.containers - 1; spans = spans }) (map open_of stack)
  stood_less spans e = record { few = omega (arith, is.few); spans = let l = less in omega (arith, e) }

-- the same of fewer containers
pub spans_fewer : (frames : List Frame) (s t : Stood) (stack : List Container) → HasSpans frames s stack → IsStood s stack → IsStood t stack → t.containers ≤ s.containers → HasSpans frames t stack
spans_fewer frames s t stack has is less le =
    let fs = map frame_of frames in
    let front : take t.containers (take s.containers stack) ≡ take t.containers stack = take_of_take t.containers s.containers stack (omega (arith, length-take s.containers stack, is.few)) in
    let all : flat_map frames_of (take s.containers stack) ≡ flat_map frames_of (take t.containers stack) ++ flat_map frames_of (drop t.containers (take s.containers stack)) =
    ap (flat_map frames_of) (sym (take-append-drop t.containers (take s.containers stack))) ∙ flat_map-append frames_of (take t.containers (take s.containers stack)) (drop t.containers (take s.containers stack))
    ∙ ap (λ (l : List Container). flat_map frames_of l ++ flat_map frames_of (drop t.containers (take s.containers stack))) front in
    let size : s.spans ≡ t.spans + length (flat_map frames_of (drop t.containers (take s.containers stack))) =
    is.spans ∙ ap (λ (l : List Span). length l) all ∙ length-append (flat_map frames_of (take t.containers stack)) (flat_map frames_of (drop t.containers (take s.containers stack))) ∙ ap (λ n. n + length (flat_map frames_of (drop t.containers (take s.containers stack)))) (sym less.spans) in
    let here : length (take s.spans fs) ≡ s.spans = ap (λ (l : List Span). length l) has ∙ sym is.spans in
    sym (take_of_take t.spans s.spans fs (omega (arith, here, size))) ∙ ap (take t.spans) (has ∙ all) ∙ take_at (flat_map frames_of (take t.containers stack)) (flat_map frames_of (drop t.containers (take s.containers stack))) t.spans (sym less.spans)

-- the same of other containers that begin so
pub stood_same : (s : Stood) (a b : List Container) → IsStood s a → take s.containers a ≡ take s.containers b → s.containers ≤ length b → IsStood s b
stood_same s a b is e h = record { few = h; spans = is.spans ∙ ap (λ (l : List Container). length (flat_map frames_of l)) e }

pub spans_same : (frames : List Frame) (s : Stood) (a b : List Container) → HasSpans frames s a → take s.containers a ≡ take s.containers b → HasSpans frames s b
spans_same frames s a b has e = has ∙ ap (flat_map frames_of) e

-- the containers that go on are the same
module _ (s : Stood) (old own went begun : List Container) (m : ℕ) (is : IsStood s old) (few : s.containers ≤ m) (went_is : went ≡ take m old) (own_is : own ≡ went ++ begun) where
  pub within : s.containers ≤ length went
  within = omega (arith, ap (λ (l : List Container). length l) went_is, length-take m old, is.few)

  pub front_same : take s.containers old ≡ take s.containers own
  front_same =
      sym (ap (take s.containers) own_is ∙ take-append-le s.containers went begun within ∙ ap (take s.containers) went_is ∙ take_of_take s.containers m old (omega (arith, length-take m old, is.few)))

  pub stood_own : IsStood s own
  stood_own = stood_same s old own is front_same (omega (arith, within, ap (λ (l : List Container). length l) own_is, length-append went begun))

  pub spans_own : (frames : List Frame) → HasSpans frames s old → HasSpans frames s own
  spans_own frames has = spans_same frames s old own has front_same

-- the first of the containers
module _ (s : Stood) (own shown : List Container) (m : ℕ) (is : IsStood s own) (few : s.containers ≤ m) (shown_is : shown ≡ take m own) where
  pub enough : s.containers ≤ length (take m own)
  enough = omega (arith, length-take m own, is.few)

  pub first_same : take s.containers own ≡ take s.containers shown
  first_same = sym (ap (take s.containers) shown_is ∙ take_of_take s.containers m own enough)

  pub stood_shown : IsStood s shown
  stood_shown = stood_same s own shown is first_same (omega (arith, enough, ap (λ (l : List Container). length l) shown_is))

  pub spans_shown : (frames : List Frame) → HasSpans frames s own → HasSpans frames s shown
  spans_shown frames has = spans_same frames s own shown has first_same

-- all of the first containers
module _ (s : Stood) (all own shown : List Container) (n m : ℕ) (is : IsStood s shown) (size : s.containers ≡ length shown) (own_is : own ≡ take n all) (shown_is : shown ≡ take m own) where
  pub shown_few : length shown ≤ length own
  shown_few = omega (arith, ap (λ (l : List Container). length l) shown_is, length-take m own)

  pub own_few : length own ≤ length all
  own_few = omega (arith, ap (λ (l : List Container). length l) own_is, length-take n all)

  pub all_same : take s.containers shown ≡ take s.containers all
  all_same =
      ap (take s.containers) shown_is ∙ take_of_take s.containers m own (omega (arith, size, ap (λ (l : List Container). length l) shown_is)) ∙ ap (take s.containers) own_is
      ∙ take_of_take s.containers n all (omega (arith, size, shown_few, ap (λ (l : List Container). length l) own_is))

  pub stood_all : IsStood s all
  stood_all = stood_same s shown all is all_same (omega (arith, size, shown_few, own_few))

  pub spans_all : (frames : List Frame) (list : List Span) → map frame_of frames ≡ flat_map frames_of shown ++ list → HasSpans frames s all
  spans_all frames list e =
      let whole : take s.containers shown ≡ shown = take_all s.containers shown (omega (arith, size)) in
      let spans : length (flat_map frames_of shown) ≡ s.spans = sym (is.spans ∙ ap (λ (l : List Container). length (flat_map frames_of l)) whole) in
      ap (take s.spans) e ∙ take_at (flat_map frames_of shown) list s.spans spans ∙ ap (flat_map frames_of) (sym whole ∙ all_same)

pub kept_few : (frames : List Frame) (kept : Stood) (stack : List Container) → IsStood kept stack → HasSpans frames kept stack → kept.spans ≤ length frames
kept_few frames kept stack is has = omega (arith, ap (λ (l : List Span). length l) has, is.spans, length-take kept.spans (map frame_of frames), length-map frames frame_of)

-- the spans become those of the next part
module _ (frames next : List Frame) (kept : Stood) (stack : List Container) (list : List Span) (is : IsStood kept stack) (has : HasSpans frames kept stack)
    (next_is : map frame_of next ≡ flat_map frames_of (drop kept.containers stack) ++ list) where
  abbrev pub front : List Span
  front = flat_map frames_of (take kept.containers stack)

  pub both : front ++ map frame_of next ≡ flat_map frames_of stack ++ list
  both =
      ap (λ (l : List Span). front ++ l) next_is ∙ sym (append_assoc front (flat_map frames_of (drop kept.containers stack)) list)
      ∙ ap (λ (l : List Span). l ++ list) (sym (flat_map-append frames_of (take kept.containers stack) (drop kept.containers stack)) ∙ ap (flat_map frames_of) (take-append-drop kept.containers stack))

  pub spans_turned : (old new : List Frame) → take kept.spans old ≡ take kept.spans frames → new ≡ take kept.spans old ++ next → map frame_of new ≡ flat_map frames_of stack ++ list
  spans_turned old new e n =
      ap (map frame_of) (n ∙ ap (λ (l : List Frame). l ++ next) e) ∙ map-append frame_of (take kept.spans frames) next ∙ ap (λ (l : List Span). l ++ map frame_of next) (sym (take-map frame_of kept.spans frames) ∙ has) ∙ both

  pub shared_turned : (all : List Span) → all ≡ flat_map frames_of stack ++ list → kept.spans + shared (drop kept.spans (map frame_of frames)) (map frame_of next) ≡ shared (map frame_of frames) all
  shared_turned all e =
      let fs = map frame_of frames in
      let split : fs ≡ front ++ drop kept.spans fs = sym (take-append-drop kept.spans fs) ∙ ap (λ (l : List Span). l ++ drop kept.spans fs) has in
      let size : length front ≡ kept.spans = sym is.spans in
      sym ((λ k. shared (split k) ((e ∙ sym both) k)) ∙ shared_front front (drop kept.spans fs) (map frame_of next) ∙ ap (λ n. n + shared (drop kept.spans fs) (map frame_of next)) size)

-- and they are those of all its containers
pub stood_turned : (kept s : Stood) (stack : List Container) (more : ℕ) → IsStood kept stack → more ≡ length (flat_map frames_of (drop kept.containers stack)) → s.containers ≡ length stack → s.spans ≡ kept.spans + more → IsStood s stack
stood_turned kept s stack more is em ec es = record {
  few = omega (arith, ec);
  spans =
      es ∙ (λ k. is.spans k + em k) ∙ sym (length-append (flat_map frames_of (take kept.containers stack)) (flat_map frames_of (drop kept.containers stack)))
      ∙ ap (λ (l : List Span). length l) (sym (flat_map-append frames_of (take kept.containers stack) (drop kept.containers stack)))
      ∙ ap (λ (l : List Container). length (flat_map frames_of l)) (take-append-drop kept.containers stack ∙ sym (take_all s.containers stack (omega (arith, ec))));
}
