-- Lemmas on spans of containers that are open.
use Rattle.std.proofs.Common.{◌≡◌, ℕ, suc, ◌+◌, ◌<◌, ◌≤◌, true, false, cond, List, [], ◌∷◌, ◌++◌, length, take, drop, map, get_or, refl, sym, ap, ◌∙◌, arith, append_assoc}
use Rattle.std.specs.Prelude.{◌==◌, ◌&&◌, None, reverse}
use Rattle.std.specs.List.{flat_map}
use Rattle.std.proofs.lemmas.List.{append-nil, reverse-append, take-append-le, drop-append-le, take_all, take_more, drop_all, drop_more, length_push, map-append}
use Rattle.std.proofs.lemmas.List.Concat.{flat_map-cons}
use Rattle.markdown_base.specs.declared.event.Event.{Event}
use Rattle.markdown_base.specs.declared.event.Kind.TheVariants.{Exit}
use Rattle.markdown_base.specs.declared.event.Point.{Point}
use Rattle.markdown_base.specs.Events.{same_name}
use Rattle.mdblock_containers.specs.declared.frames.Frame.{Frame}
use Rattle.mdblock_containers.specs.declared.going.Open.{Open}
use Rattle.mdblock_containers.specs.declared.parts.PartEnd.{PartEnd}
use Rattle.mdblock_containers.specs.Parts.{ending_at}
use Rattle.mdblock_containers.specs.PlaceEvents.{event_at}
use Rattle.mdblock_containers.specs.Rest.{ending_to, exits_to}
use Rattle.mdblock_containers.specs.SeatPlaces.{events_of}
use Rattle.mdblock_containers.specs.Frames.{exits_at, frame_of}
use Rattle.mdblock_containers.specs.Skeleton.{Frame as Span, frames_of, shared}
use Rattle.mdblock_containers.specs.Views.{open_of}

exits_push : (place : Point) (fs : List Frame) (f : Frame) → exits_at place (fs ++ f ∷ []) ≡ event_at Exit f.name place ∷ exits_at place fs
exits_push place fs f = ap (map (λ (g : Frame). event_at Exit g.name place)) (reverse-append fs (f ∷ []))

-- the innermost span ends
module _ (place : Point) (many : ℕ) (old new : List Frame) (f : Frame) (is : old ≡ new ++ f ∷ []) (more : many < length old) where
  left : many ≤ length new
  left = let n : length old ≡ length (new ++ f ∷ []) = ap length is in let m : length (new ++ f ∷ []) ≡ length new + 1 = length_push new f in omega arith

  pub frame_enough : many ≤ length new
  frame_enough = left

  pub frame_front : take many new ≡ take many old
  frame_front = sym (ap (take many) is ∙ take-append-le many new (f ∷ []) left)

  pub frame_events : (before after all : List Event) → after ≡ before ++ event_at Exit f.name place ∷ [] → before ++ exits_at place (drop many old) ≡ all → after ++ exits_at place (drop many new) ≡ all
  frame_events before after all e h =
      let rest : drop many old ≡ drop many new ++ f ∷ [] = ap (drop many) is ∙ drop-append-le many new (f ∷ []) left in
      let exits : exits_at place (drop many old) ≡ event_at Exit f.name place ∷ exits_at place (drop many new) = ap (exits_at place) rest ∙ exits_push place (drop many new) f in
      ap (λ (l : List Event). l ++ exits_at place (drop many new)) e ∙ append_assoc before (event_at Exit f.name place ∷ []) (exits_at place (drop many new)) ∙ ap (λ (l : List Event). before ++ l) (sym exits) ∙ h

pub frames_end : (place : Point) (many : ℕ) (frames first : List Frame) (events all : List Event) → length frames ≤ many → take many frames ≡ take many first → events ++ exits_at place (drop many frames) ≡ all → (events ≡ all) × (frames ≡ take many first)
frames_end place many frames first events all h t e =
    let none : drop many frames ≡ [] = drop_all many frames h in
    (sym (ap (λ (l : List Frame). events ++ exits_at place l) none ∙ append-nil events) ∙ e, sym (take_all many frames h) ∙ t)

-- the last of the spans that are left ends
pub frames_left : (place : Point) (frames : List Frame) (n : ℕ) (d : Frame) (before after all : List Event) → n < length frames → after ≡ before ++ event_at Exit (get_or frames n d).name place ∷ []
    → before ++ exits_at place (take (n + 1) frames) ≡ all → after ++ exits_at place (take n frames) ≡ all
frames_left place frames n d before after all h e q =
    let f = get_or frames n d in
    let exits : exits_at place (take (n + 1) frames) ≡ event_at Exit f.name place ∷ exits_at place (take n frames) = ap (exits_at place) (take_more frames n d h) ∙ exits_push place (take n frames) f in
    ap (λ (l : List Event). l ++ exits_at place (take n frames)) e ∙ append_assoc before (event_at Exit f.name place ∷ []) (exits_at place (take n frames)) ∙ ap (λ (l : List Event). before ++ l) (sym exits) ∙ q

-- the spans of one more container
pub frames_more : (xs ys : List Span) (stack : List Open) (i : ℕ) (d : Open) → i < length stack → ys ≡ xs ++ frames_of (open_of (get_or stack i d))
    → ys ++ flat_map frames_of (map open_of (drop (i + 1) stack)) ≡ xs ++ flat_map frames_of (map open_of (drop i stack))
frames_more xs ys stack i d h e =
    let c = open_of (get_or stack i d) in
    let more = map open_of (drop (i + 1) stack) in
    ap (λ (l : List Span). l ++ flat_map frames_of more) e ∙ append_assoc xs (frames_of c) (flat_map frames_of more)
    ∙ ap (λ (l : List Span). xs ++ l) (sym (ap (λ (l : List Open). flat_map frames_of (map open_of l)) (drop_more stack i d h) ∙ flat_map-cons frames_of c more))

-- spans that two lines share
module _ (fs gs : List Frame) (n : ℕ) (d e : Frame) (in_fs : n < length fs) (in_gs : n < length gs) where
  split : shared (map frame_of (drop n fs)) (map frame_of (drop n gs)) ≡ shared (map frame_of (get_or fs n d ∷ drop (n + 1) fs)) (map frame_of (get_or gs n e ∷ drop (n + 1) gs))
  split = λ k. shared (map frame_of (drop_more fs n d in_fs k)) (map frame_of (drop_more gs n e in_gs k))

  pub shared_more : (same_name (get_or fs n d).name (get_or gs n e).name && ((get_or fs n d).line == (get_or gs n e).line)) ≡ true
      → n + shared (map frame_of (drop n fs)) (map frame_of (drop n gs)) ≡ (n + 1) + shared (map frame_of (drop (n + 1) fs)) (map frame_of (drop (n + 1) gs))
  shared_more q = let more : shared (map frame_of (drop n fs)) (map frame_of (drop n gs)) ≡ suc (shared (map frame_of (drop (n + 1) fs)) (map frame_of (drop (n + 1) gs))) = split ∙ ap (λ b. cond b (suc (shared (map frame_of (drop (n + 1) fs)) (map frame_of (drop (n + 1) gs)))) 0) q in omega arith

  pub shared_stops : (same_name (get_or fs n d).name (get_or gs n e).name && ((get_or fs n d).line == (get_or gs n e).line)) ≡ false → shared (map frame_of (drop n fs)) (map frame_of (drop n gs)) ≡ 0
  shared_stops q = split ∙ ap (λ b. cond b (suc (shared (map frame_of (drop (n + 1) fs)) (map frame_of (drop (n + 1) gs)))) 0) q

pub shared_none : (fs gs : List Frame) (n : ℕ) → length fs ≤ n → shared (map frame_of (drop n fs)) (map frame_of (drop n gs)) ≡ 0
shared_none fs gs n h = ap (λ (l : List Frame). shared (map frame_of l) (map frame_of (drop n gs))) (drop_all n fs h)

pub shared_none_behind : (fs gs : List Frame) (n : ℕ) → length gs ≤ n → shared (map frame_of (drop n fs)) (map frame_of (drop n gs)) ≡ 0
shared_none_behind fs gs n h = ap (λ (l : List Frame). shared (map frame_of (drop n fs)) (map frame_of l)) (drop_all n gs h) ∙ none (map frame_of (drop n fs))
  where
    none : (xs : List Span) → shared xs [] ≡ 0
    none [] = refl
    none (x ∷ xs) = refl

-- ---- exits as marks

reverse_frames : (fs : List Frame) → reverse (map frame_of fs) ≡ map frame_of (reverse fs)
reverse_frames [] = refl
reverse_frames (f ∷ fs) =
    reverse-append (frame_of f ∷ []) (map frame_of fs) ∙ ap (λ (l : List Span). l ++ frame_of f ∷ []) (reverse_frames fs) ∙ sym (map-append frame_of (reverse fs) (f ∷ [])) ∙ ap (map frame_of) (sym (reverse-append (f ∷ []) fs))

pub exits_same : (place : Point) (fs : List Frame) → exits_at place fs ≡ events_of (exits_to (map frame_of fs) place)
exits_same place fs = by (reverse fs) ∙ ap (λ (l : List Span). events_of (map (λ g. (event_at Exit g.name place, None)) l)) (sym (reverse_frames fs))
  where
    by : (xs : List Frame) → map (λ (f : Frame). event_at Exit f.name place) xs ≡ events_of (map (λ (g : Span). (event_at Exit g.name place, None)) (map frame_of xs))
    by [] = refl
    by (x ∷ xs) = ap (λ (l : List Event). event_at Exit x.name place ∷ l) (by xs)

pub ending_same : (e : PartEnd) → ending_at e ≡ events_of (ending_to e)
ending_same e = by (ending_at e)
  where
    by : (xs : List Event) → xs ≡ events_of (map (λ (x : Event). (x, None)) xs)
    by [] = refl
    by (x ∷ xs) = ap (λ (l : List Event). x ∷ l) (by xs)
