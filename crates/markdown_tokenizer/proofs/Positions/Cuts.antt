-- A document can be cut at every n-th of its virtual bytes.
use Rattle.markdown_tokenizer.proofs.Prelude.{AllByRecursion, ◌≡◌, ℕ, ◌+◌, ◌<◌, List, [], ◌∷◌, true, false, cond, refl, arith, get_or, slice_get-get_or, filter, map, enumerate_from, Point, Seat, point, virtual, stands_before, IsPointOf, every-map, place_of, is_cut, cuts_every, FollowInOrder, AreCuts}
use Rattle.std.proofs.lemmas.List.Elements.{recursion_from_All}
use Rattle.markdown_tokenizer.proofs.Positions.Order.{after-before, not-before, every-all}
use Rattle.markdown_tokenizer.proofs.Positions.SeatLaws.{get-among, seat-is-point}
use Rattle.markdown_tokenizer.proofs.Positions.Points.{point_at-point}
use Rattle.markdown_tokenizer.proofs.Positions.Cursors.{upto-order}
use Rattle.markdown_tokenizer.proofs.Positions.TextOrder.{AreInOrder, Follows, virtual-order}

module _ (t : ℕ) (bytes : List ℕ) (d : 0 < t) where
  cuts-follow : (n number : ℕ) (p : Point) (xs : List Seat) → AllByRecursion (λ s. IsPointOf t bytes s.point) xs → AllByRecursion (λ s. stands_before s.point p ≡ false) xs → AreInOrder bytes xs
      → FollowInOrder t bytes p (map (λ x. place_of x.1) (filter (λ x. is_cut n x.0) (enumerate_from number xs)))
  cuts-follow n number p [] points h order = tt
  cuts-follow n number p (s ∷ ss) points h order =
      let rest = filter (λ (x : ℕ × Seat). is_cut n x.0) (enumerate_from (number + 1) ss) in
      let cut = cuts-follow n (number + 1) s.point ss points.1 (every-map (Follows s) (λ r. stands_before r.point s.point ≡ false) (λ r k. after-before s.point.index s.point.vs r.point.index r.point.vs k.0) ss order.1) order.2 in
      elim (is_cut n number) as (λ b. FollowInOrder t bytes p (map (λ (x : ℕ × Seat). place_of x.1) (cond b ((number, s) ∷ rest) rest))) [
        | true ↦ (s.point, point_at-point t bytes d s.point points.0, upto-order t bytes p s.point h.0, cut)
        | false ↦ cuts-follow n (number + 1) p ss points.1 h.1 order.2
      ]

-- the places of the virtual bytes number n, 2n, 3n, .. are cuts
pub cuts_every-are-cuts : (t : ℕ) → 0 < t → (bytes : List ℕ) (n : ℕ) → AreCuts t bytes (cuts_every t bytes n)
cuts_every-are-cuts t d bytes n =
    let seats = virtual t bytes in
    let seat = λ (k : ℕ) (e : Seat). get_or seats k e in
    cuts-follow t bytes d n 0 (point 1 1 0 0) seats (recursion_from_All (λ s. IsPointOf t bytes s.point) seats
    (λ k e l. seat-is-point t bytes (seat k e) (get-among seats k (seat k e) (slice_get-get_or seats k e l))))
    (every-all (λ s. stands_before s.point (point 1 1 0 0) ≡ false) (λ s. not-before s.point.index s.point.vs 0 0 (omega arith) refl) seats) (virtual-order t bytes d)
