-- Seats of a text, and the points of places at which they begin, are shown and end.
use Rattle.markdown_tokenizer.proofs.Prelude.{◌≡◌, ℕ, zero, suc, ◌<◌, List, [], ◌∷◌, ◌++◌, Some, sym, ap, ◌∙◌, subst, append_assoc, slice_get, refl, arith, flat_map, flat_map-append, Contains, append-nil, Contains-append_right, Point, Seat, point, virtual, end_after, document_end, shown, IsPointOf, end-after-one}
use Rattle.std.proofs.lemmas.List.Elements.{Contains-append_left}
use Rattle.markdown_tokenizer.proofs.Positions.Standing.{IsAmong, seat-begins}

-- a seat of a list, and of a filtered list
pub get-among : (xs : List Seat) (k : ℕ) (s : Seat) → slice_get xs k ≡ Some s → IsAmong s xs
get-among [] k s e = absurd (cc)
get-among (x ∷ xs) zero s e = let f : x ≡ s = (cc) in record { front = []; back = xs; splits = ap (λ (y : Seat). y ∷ xs) f }
get-among (x ∷ xs) (suc k) s e =
    let a = get-among xs k s e in
    record { front = x ∷ a.front; back = a.back; splits = ap (λ (ys : List Seat). x ∷ ys) a.splits }

abbrev points_of : List ℕ → List Seat → List Point
points_of bytes xs = flat_map (λ s. shown bytes s.point ∷ s.point ∷ []) xs

-- both points of each seat are points of places
module _ (t : ℕ) (bytes : List ℕ) where
  among-points : (s : Seat) (among : IsAmong s (virtual t bytes)) (p : Point) → Contains (points_of bytes (s ∷ [])) p → IsPointOf t bytes p
  among-points s among p h =
      let seats = points_of bytes (among.front ++ s ∷ among.back) in
      subst (λ (xs : List Seat). Contains (points_of bytes xs ++ document_end t bytes ∷ []) p) (sym among.splits) (Contains-append_left seats (document_end t bytes ∷ []) p
      (subst (λ (ps : List Point). Contains ps p) (sym (flat_map-append (λ (r : Seat). shown bytes r.point ∷ r.point ∷ []) among.front (s ∷ among.back)))
      (Contains-append_right (points_of bytes among.front) (points_of bytes (s ∷ among.back)) p (Contains-append_left (points_of bytes (s ∷ [])) (points_of bytes among.back) p h))))

  pub seat-is-point : (s : Seat) → IsAmong s (virtual t bytes) → IsPointOf t bytes s.point
  seat-is-point s among = among-points s among s.point (1, omega arith, refl)

  pub end-is-point : IsPointOf t bytes (document_end t bytes)
  end-is-point = Contains-append_right (points_of bytes (virtual t bytes)) (document_end t bytes ∷ []) (document_end t bytes) (0, omega arith, refl)

  module _ (d : 0 < t) where
    -- the place after some of the virtual bytes is where the next is shown, or the document's end
    pub after-is-point : (xs ys : List Seat) → virtual t bytes ≡ xs ++ ys → IsPointOf t bytes (end_after (point 1 1 0 0) xs)
    after-is-point xs [] e = subst (IsPointOf t bytes) (ap (end_after (point 1 1 0 0)) (e ∙ append-nil xs)) end-is-point
    after-is-point xs (s ∷ ys) e = subst (IsPointOf t bytes) (seat-begins t bytes d xs s ys e).shown_is
        (among-points s (record { front = xs; back = ys; splits = e }) (shown bytes s.point) (0, omega arith, refl))

    -- so is the place after each virtual byte
    pub end-of-is-point : (s : Seat) → IsAmong s (virtual t bytes) → IsPointOf t bytes s.end
    end-of-is-point s among = subst (IsPointOf t bytes) (end-after-one (point 1 1 0 0) among.front s) (after-is-point (among.front ++ s ∷ []) among.back (among.splits ∙ sym (append_assoc among.front (s ∷ []) among.back)))
