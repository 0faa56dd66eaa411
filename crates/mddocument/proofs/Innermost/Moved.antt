-- Events that account for a document account for it with letters too, and the other way round: its virtual bytes have the same places.
use Rattle.mddocument.proofs.Prelude.{◌≡◌, ℕ, List, [], ◌∷◌, ◌++◌, map, flat_map, refl, sym, ap, ◌∙◌, subst, Event, Point, shown, Seat, end_after, AccountFor, span_over, stretch_bytes}
use Rattle.mdblock_containers.specs.Letters.{lettered_seat}

-- virtual bytes have the same places
abbrev pub SamePlaces : List Seat → List Seat → Type 0
SamePlaces [] [] = Unit {0}
SamePlaces [] (y ∷ ys) = ⊥
SamePlaces (x ∷ xs) [] = ⊥
SamePlaces (x ∷ xs) (y ∷ ys) = (x.point ≡ y.point) × (x.end ≡ y.end) × SamePlaces xs ys

pub lettered-there : (at : List ℕ) (seats : List Seat) → SamePlaces seats (map (lettered_seat at) seats)
lettered-there at [] = tt
lettered-there at (s ∷ ss) = (refl, refl, lettered-there at ss)

pub lettered-back : (at : List ℕ) (seats : List Seat) → SamePlaces (map (lettered_seat at) seats) seats
lettered-back at [] = tt
lettered-back at (s ∷ ss) = (refl, refl, lettered-back at ss)

same-cut : (xs more ys : List Seat) → SamePlaces (xs ++ more) ys → (front : List Seat) × (back : List Seat) × (ys ≡ front ++ back) × SamePlaces xs front × SamePlaces more back
same-cut [] more ys h = ([], ys, refl, tt, h)
same-cut (x ∷ xs) more [] h = absurd h
same-cut (x ∷ xs) more (y ∷ ys) h = let c = same-cut xs more ys h.2 in (y ∷ c.0, c.1, ap (λ l. y ∷ l) c.2, (h.0, h.1, c.3), c.4)

same-end : (p q : Point) (xs ys : List Seat) → p ≡ q → SamePlaces xs ys → end_after p xs ≡ end_after q ys
same-end p q [] [] here h = here
same-end p q [] (y ∷ ys) here h = absurd h
same-end p q (x ∷ xs) [] here h = absurd h
same-end p q (x ∷ xs) (y ∷ ys) here h = same-end x.end y.end xs ys h.1 h.2

-- documents in which each place is shown alike
module _ (a b : List ℕ) (alike : (p : Point) → shown a p ≡ shown b p) where
  stretches-moved : (stretches : List (Seat × List Seat)) (ys : List Seat) → SamePlaces (flat_map stretch_bytes stretches) ys
      → (others : List (Seat × List Seat)) × (flat_map stretch_bytes others ≡ ys) × (map (span_over a) stretches ≡ map (span_over b) others)
  stretches-moved [] [] h = ([], refl, refl)
  stretches-moved [] (y ∷ ys) h = absurd h
  stretches-moved (st ∷ sts) [] h = absurd h
  stretches-moved (st ∷ sts) (y ∷ ys) h =
      let c = same-cut st.1 (flat_map stretch_bytes sts) ys h.2 in
      let more = stretches-moved sts c.1 c.4 in
      let from : shown a st.0.point ≡ shown b y.point = ap (shown a) h.0 ∙ alike y.point in
      let to : shown a (end_after st.0.end st.1) ≡ shown b (end_after y.end c.0) = ap (shown a) (same-end st.0.end y.end st.1 c.0 h.1 c.3) ∙ alike (end_after y.end c.0) in
      ((y, c.0) ∷ more.0, ap (λ l. y ∷ (c.0 ++ l)) more.1 ∙ ap (λ l. y ∷ l) (sym c.2), (λ i. (from i, to i) ∷ more.2 i))

  pub account-moved : (es : List Event) (xs ys : List Seat) → SamePlaces xs ys → AccountFor es a xs → AccountFor es b ys
  account-moved es xs ys same h =
      let moved = stretches-moved h.stretches ys (subst (λ l. SamePlaces l ys) (sym h.are_all) same) in
      record { stretches = moved.0; are_all = moved.1; are_innermost = h.are_innermost ∙ moved.2 }
