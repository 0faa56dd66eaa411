-- No virtual byte is in the texts of two chains: a chunk has those between its two places, and each chunk begins where the one before it has ended.
use Rattle.mddocument_costs.proofs.Prelude.{Bool, List, Option, Some, [], ap, arith, cond, false, length, length-append, not, refl, slice_get, true, ℕ, ◌&&◌, ◌+◌, ◌<◌, ◌≡◌, ◌≤◌, ◌∙◌, ◌∷◌, count_by-le-length, length-filter, sum_by-append, sum_by-cons, get_or_from_slice_get, flat_map, slice_index_or, sum_by, AllPairs, filter, option_map, unwrap_or, some-get, Content, Event, Point, denotes_same, in_range, stands_before, Seat, point, virtual, before-upto, not-before, Given, Text, empty_text, followed_by, followed_by_all, passed, pushed, follow_one_another, first_chunk, chain_of, fitting_chunks, fitting_starts, AreSpaced, pieces_behind, pieces_of, text_from, IsReady, place_at, ChainsAreApart, chain_bytes}

-- how many of these virtual bytes are not before a place, and how many are between two
abbrev pub count_from : Point → List Seat → ℕ
count_from p seats = length (filter (λ s. not (stands_before s.point p)) seats)

abbrev pub count_in : Point → Point → List Seat → ℕ
count_in from to seats = length (filter (in_range from to) seats)

-- what is between two places is not behind the second
one-more : (x y : Bool) (s : Seat) (A B C : List Seat) → (x ≡ true → y ≡ true) → length A + length B ≤ length C
    → length (cond (not x && y) (s ∷ A) A) + length (cond (not y) (s ∷ B) B) ≤ length (cond (not x) (s ∷ C) C)
one-more true true s A B C leads h = h
one-more true false s A B C leads h = let no = leads refl in absurd (cc)
one-more false true s A B C leads h = omega (arith, h)
one-more false false s A B C leads h = omega (arith, h)

pub count-split : (from to : Point) (seats : List Seat) → stands_before to from ≡ false → count_in from to seats + count_from to seats ≤ count_from from seats
count-split from to [] upto = omega arith
count-split from to (s ∷ ss) upto =
    one-more (stands_before s.point from) (stands_before s.point to) s (filter (in_range from to) ss) (filter (λ s. not (stands_before s.point to)) ss) (filter (λ s. not (stands_before s.point from)) ss)
    (λ before. before-upto s.point.index s.point.vs from.index from.vs to.index to.vs before upto) (count-split from to ss upto)

count-within : (p : Point) (seats : List Seat) → count_from p seats ≤ length seats
count-within p seats =
    let all = length-filter (λ (s : Seat). not (stands_before s.point p)) seats in
    let few = count_by-le-length (λ (s : Seat). not (stands_before s.point p)) seats in
    omega (arith, all, few)

-- the places of events do not decrease
module _ (events : List Event) (in_order : AllPairs (λ (e f : Event). stands_before f.point e.point ≡ false) events) where
  place-is : (i : ℕ) (e : Event) → slice_get events i ≡ Some e → place_at events i ≡ e.point
  place-is i e at = ap (λ o. unwrap_or (option_map (λ (e : Event). e.point) o) (point 1 1 0 0)) at

  ordered : (i j : ℕ) → i < j → j < length events → stands_before (place_at events j) (place_at events i) ≡ false
  ordered i j less within =
      let one = some-get events i (omega arith) in
      let other = some-get events j within in
      let pair = in_order i j one.0 less within in
      let first : slice_index_or events i one.0 ≡ one.0 = get_or_from_slice_get events i one.0 one.0 one.1 in
      let second : slice_index_or events j one.0 ≡ other.0 = get_or_from_slice_get events j other.0 one.0 other.1 in
      let a = place-is i one.0 one.1 in
      let b = place-is j other.0 other.1 in
      rw (a, b) (rw (first, second) at pair)

  -- how many virtual bytes a chunk has
  abbrev size : List Seat → ℕ → ℕ
  size seats k = count_in (place_at events k) (place_at events (k + 1)) seats

  spaced-within : (from : ℕ) (ks : List ℕ) (n : ℕ) → AreSpaced from ks n → from ≤ n
  spaced-within from [] n h = h
  spaced-within from (k ∷ ks) n h = omega (arith, h.0, spaced-within (k + 2) ks n h.1)

  sizes-within : (seats : List Seat) (from : ℕ) (p : Point) → ((k : ℕ) → from ≤ k → k < length events → stands_before (place_at events k) p ≡ false)
      → (ks : List ℕ) → AreSpaced from ks (length events) → sum_by (size seats) ks ≤ count_from p seats
  sizes-within seats from p later [] h = omega arith
  sizes-within seats from p later (k ∷ ks) h =
      let inside = spaced-within (k + 2) ks (length events) h.1 in
      let ends = ordered k (k + 1) (omega arith) (omega (arith, inside)) in
      let first = count-split p (place_at events k) seats (later k h.0 (omega (arith, inside))) in
      let here = count-split (place_at events k) (place_at events (k + 1)) seats ends in
      let more = sizes-within seats (k + 2) (place_at events (k + 1)) (λ d behind within. ordered (k + 1) d (omega (arith, behind)) within) ks h.1 in
      let both = sum_by-cons (size seats) k ks in
      omega (arith, first, here, more, both)

module _ (g : Given) (events : List Event) where
  abbrev size_of : ℕ → ℕ
  size_of k = count_in (place_at events k) (place_at events (k + 1)) (virtual g.tab g.bytes)

  -- a gap adds no byte
  gap-adds : (text : Text) (p : Point) → (followed_by g text (passed p)).seats ≡ text.seats
  gap-adds text p = elim (denotes_same g.tab g.bytes p text.end) as (λ b. (cond b text (record text { end = p })).seats ≡ text.seats) [ true ↦ refl | false ↦ refl ]

  -- and a chunk its own
  behind-adds : (text : Text) (ks : List ℕ) → length (followed_by_all g text (pieces_behind events ks)).seats ≡ length text.seats + sum_by size_of ks
  behind-adds text [] = omega arith
  behind-adds text (k ∷ ks) =
      let from = place_at events k in
      let to = place_at events (k + 1) in
      let gap = followed_by g text (passed from) in
      let more = behind-adds (followed_by g gap (pushed from to)) ks in
      let own = length-append gap.seats (filter (in_range from to) (virtual g.tab g.bytes)) in
      let same : length gap.seats ≡ length text.seats = ap length (gap-adds text from) in
      let both = sum_by-cons size_of k ks in
      omega (arith, more, own, same, both)

  chain-adds : (p : Point) (ks : List ℕ) → length (followed_by_all g (empty_text p) (pieces_of events ks)).seats ≡ sum_by size_of ks
  chain-adds p [] = refl
  chain-adds p (k ∷ ks) =
      let from = place_at events k in
      let to = place_at events (k + 1) in
      let more = behind-adds (followed_by g (empty_text p) (pushed from to)) ks in
      let both = sum_by-cons size_of k ks in
      omega (arith, more, both)

  chains-add : (cs : List ℕ) → sum_by (λ c. length (text_from g events c).seats) cs ≡ sum_by size_of (flat_map (chain_of events) cs)
  chains-add [] = refl
  chains-add (c ∷ cs) =
      let one = sum_by-cons (λ c. length (text_from g events c).seats) c cs in
      let here = chain-adds (place_at events (first_chunk (chain_of events c))) (chain_of events c) in
      let both = sum_by-append size_of (chain_of events c) (flat_map (chain_of events) cs) in
      omega (arith, one, here, both, chains-add cs)

-- So all texts together have no more than there are
pub bytes-within : (g : Given) (wanted : Option Content) (events : List Event) → IsReady g.tab g.bytes wanted events → AllPairs (λ (e f : Event). stands_before f.point e.point ≡ false) events
    → chain_bytes g wanted events ≤ length (virtual g.tab g.bytes)
bytes-within g wanted events ready in_order =
    let seats = virtual g.tab g.bytes in
    let follow = follow_one_another g.tab g.bytes wanted events ready in
    let all : chain_bytes g wanted events ≡ sum_by (size_of g events) (fitting_chunks wanted events) = chains-add g events (fitting_starts wanted events) ∙ ap (sum_by (size_of g events)) follow.in_order in
    let none : (k : ℕ) → 0 ≤ k → k < length events → stands_before (place_at events k) (point 0 0 0 0) ≡ false = λ k a b. not-before (place_at events k).index (place_at events k).vs 0 0 (omega arith) refl in
    let few = sizes-within events in_order seats 0 (point 0 0 0 0) none (fitting_chunks wanted events) follow.spaced in
    omega (arith, all, few, count-within (point 0 0 0 0) seats)

pub chains-apart : ChainsAreApart
chains-apart g wanted events ready in_order = bytes-within g wanted events ready in_order.0
