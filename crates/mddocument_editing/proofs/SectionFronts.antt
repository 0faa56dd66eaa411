-- What is in front of sections: one section more, and the events of sections.
use Rattle.mddocument_editing.proofs.Prelude.{◌≡◌, ℕ, ◌+◌, ◌<◌, List, ◌∷◌, [], ◌++◌, length, sym, ap, ◌∙◌, arith, take, map, get_or, append_assoc, length-append, length-map, map-append, take_more, sum_by-append, slice_get, sum_by, get_or_from_slice_get, slice_get_within, Event, no-further, line_endings, moved_event, document_of, events_of_sections, Front, Section, IsFrontOf, IsSmall, bytes_of_sections, Some}
use Rattle.std.proofs.Common.{append-nil}
use Rattle.mddocument_parts.proofs.MovedTwice.{events-twice}

-- the front of a list, one element longer
pub take-next : {A : Type 0} (xs : List A) (i : ℕ) (x : A) → i < length xs → x ≡ get_or xs i x → take (i + 1) xs ≡ take i xs ++ x ∷ []
take-next xs i x lt is = take_more xs i x lt ∙ ap (λ y. take i xs ++ y ∷ []) (sym is)

pub sum-one : {A : Type 0} (f : A → ℕ) (xs : List A) (x : A) → sum_by f (xs ++ x ∷ []) ≡ sum_by f xs + f x
sum-one f xs x = omega (arith, sum_by-append f xs (x ∷ []))

pub sum-cons : {A : Type 0} (f : A → ℕ) (x : A) (xs : List A) → sum_by f (x ∷ xs) ≡ f x + sum_by f xs
sum-cons f x xs = omega (arith, sum_by-append f (x ∷ []) xs)

pub length-one : (xs : List Section) (x : Section) → length (document_of (bytes_of_sections (xs ++ x ∷ []))) ≡ length (document_of (bytes_of_sections xs)) + length x.part.bytes.items
length-one [] x = omega (arith, length-append {A = ℕ})
length-one (y ∷ xs) x = omega (arith, length-one xs x, length-append {A = ℕ})

-- one section more is in front
pub front-step : (xs : List Section) (front next : Front) (x : Section) → IsFrontOf xs front → next.lines ≡ front.lines + x.lines → next.bytes ≡ front.bytes + length x.part.bytes.items
    → next.events ≡ front.events + length x.events → IsSmall next → IsFrontOf (xs ++ x ∷ []) next
front-step xs front next x is lines bytes events small = record {
  lines = omega (arith, lines, is.lines, sum-one (λ section. section.lines) xs x);
  bytes = omega (arith, bytes, is.bytes, length-one xs x);
  events = omega (arith, events, is.events, sum-one (λ section. length section.events) xs x);
  small = small;
}

-- one event more is pushed
pub push-next : (f : Event → Event) (some old all : List Event) (xs : List Event) (i : ℕ) (x y : Event) → slice_get xs i ≡ Some x → y ≡ f x → all ≡ some ++ y ∷ []
    → some ≡ old ++ map f (take i xs) → all ≡ old ++ map f (take (i + 1) xs)
push-next f some old all xs i x y is moved pushed before =
    let next = take-next xs i x (slice_get_within xs i x is) (sym (get_or_from_slice_get xs i x x is)) in
    let more : map f (take (i + 1) xs) ≡ map f (take i xs) ++ f x ∷ [] = ap (map f) next ∙ map-append f (take i xs) (x ∷ []) in
    rw (more, pushed, before, moved, append_assoc)

-- ---- the events of sections

-- how many line endings sections have
abbrev pub lines_in : List (List ℕ) → ℕ
lines_in sections = sum_by line_endings sections

-- the events of sections, of which some are in front
module _ (read : List ℕ → List Event) where
  pub events-append : (xs ys : List (List ℕ)) → events_of_sections read (xs ++ ys)
      ≡ events_of_sections read xs ++ map (moved_event (lines_in xs) (length (document_of xs)) (length (events_of_sections read xs))) (events_of_sections read ys)
  events-append [] ys = sym (no-further (events_of_sections read ys))
  events-append (s ∷ xs) ys =
      let first = read s in
      let move = moved_event (line_endings s) (length s) (length first) in
      let rest = events_of_sections read xs in
      let more = events_of_sections read ys in
      let lines : lines_in xs + line_endings s ≡ lines_in (s ∷ xs) = omega (arith, sum-cons line_endings s xs) in
      let bytes : length (document_of xs) + length s ≡ length (document_of (s ∷ xs)) = omega (arith, length-append s (document_of xs)) in
      let events : length rest + length first ≡ length (first ++ map move rest) = omega (arith, length-append first (map move rest), length-map rest move) in
      ap (λ l. first ++ map move l) (events-append xs ys)
      ∙ ap (λ l. first ++ l) (map-append move rest (map (moved_event (lines_in xs) (length (document_of xs)) (length rest)) more))
      ∙ ap (λ l. first ++ (map move rest ++ l)) (events-twice (line_endings s) (length s) (length first) (lines_in xs) (length (document_of xs)) (length rest) more)
      ∙ ap (λ n. first ++ (map move rest ++ map (moved_event n (length (document_of xs) + length s) (length rest + length first)) more)) lines
      ∙ ap (λ n. first ++ (map move rest ++ map (moved_event (lines_in (s ∷ xs)) n (length rest + length first)) more)) bytes
      ∙ ap (λ n. first ++ (map move rest ++ map (moved_event (lines_in (s ∷ xs)) (length (document_of (s ∷ xs))) n) more)) events
      ∙ sym (append_assoc first (map move rest) (map (moved_event (lines_in (s ∷ xs)) (length (document_of (s ∷ xs))) (length (first ++ map move rest))) more))

  -- those of one section
  pub events-one : (s : List ℕ) → events_of_sections read (s ∷ []) ≡ read s
  events-one s = append-nil (read s)
