-- Places of a document: where each virtual byte begins, is shown and ends, and what is left there.
use Rattle.markdown_tokenizer.proofs.Prelude.{AllByRecursion, ◌≡◌, ◌≢◌, ℕ, zero, suc, ◌+◌, ◌-◌, ◌<◌, ◌==◌, List, [], ◌∷◌, ◌++◌, Bool, true, false, cond, refl, sym, ap, ◌∙◌, subst, arith, append_assoc, inl, inr, slice_index, ◌&&◌, flat_map, nat_tests, append-nil, eqb-true, and_parts, add-one, Point, Seat, point, virtual, end_after, document_end, stands_before, shown, follows_cr, IsShown, IsPointOf, points, every-map, every-append, end-after-one, rest_at, Bounds, IsPlace, IsSeatAt, begins_pair, goes_on, end_at}
use Rattle.std.proofs.lemmas.Bool.{cond_both, cond-false}
use Rattle.std.proofs.lemmas.List.Elements.{All-contains, All-from_recursion}
use Rattle.markdown_tokenizer.proofs.Positions.Order.{not-number, before-self, later-later, after-before, before-upto}
use Rattle.markdown_tokenizer.proofs.Positions.Seats.{StandsThere, stands-there}
use Rattle.markdown_tokenizer.proofs.Positions.Chains.{IsAt, Begins, IsChain, whole-chain, shown-other}

pub same-numbers : (a b c d e f g h : ℕ) → a ≡ e → b ≡ f → c ≡ g → d ≡ h → point a b c d ≡ point e f g h
same-numbers a b c d e f g h p q r s = rw (p, q, r, s) refl

module _ (t : ℕ) (bytes : List ℕ) where
  pub chain-at : (p : Point) (xs : List Seat) → IsChain t bytes p xs → IsAt t bytes p xs
  chain-at p [] c = c
  chain-at p (s ∷ ss) c = c.0

  pub chain-split : (p : Point) (xs ys : List Seat) → IsChain t bytes p (xs ++ ys) → IsChain t bytes (end_after p xs) ys
  chain-split p [] ys c = c
  chain-split p (s ∷ ss) ys c = chain-split s.end ss ys c.2

  -- what a chain has passed is not after its place
  pub chain-upto : (p : Point) (xs ys : List Seat) → IsChain t bytes p (xs ++ ys) → stands_before (end_after p xs) p ≡ false
  chain-upto p [] ys c = before-self p.index p.vs
  chain-upto p (s ∷ ss) ys c =
      let q = end_after s.end ss in
      let after = after-before s.point.index s.point.vs s.end.index s.end.vs c.1.ends in
      later-later q.index q.vs s.end.index s.end.vs p.index p.vs (chain-upto s.end ss ys c.2)
      (later-later s.end.index s.end.vs s.point.index s.point.vs p.index p.vs after c.1.later)

  chain-behind : (p : Point) (xs ys : List Seat) → IsChain t bytes p (xs ++ ys) → AllByRecursion (λ s. stands_before s.point (end_after p xs) ≡ true) xs
  chain-behind p [] ys c = tt
  chain-behind p (s ∷ ss) ys c =
      let q = end_after s.end ss in
      (before-upto s.point.index s.point.vs s.end.index s.end.vs q.index q.vs c.1.ends (chain-upto s.end ss ys c.2), chain-behind s.end ss ys c.2)

  -- a place is not before where it is shown
  pub shown-upto : (p : Point) → stands_before p (shown bytes p) ≡ false
  shown-upto p = elim ((slice_index bytes p.index == 10) && follows_cr bytes p.index) as (λ b. stands_before p (cond b (point p.line p.column (p.index - 1) p.vs) p) ≡ false) [
    | true ↦ grind (arith, nat_tests)
    | false ↦ before-self p.index p.vs
  ]

  follows-back : (i : ℕ) → follows_cr bytes i ≡ true → slice_index bytes (i - 1) ≢ 10
  follows-back zero e = absurd (cc)
  follows-back (suc i) e =
      let back : suc i - 1 ≡ i = omega arith in
      λ k. let cr = eqb-true (slice_index bytes i) 13 e in omega (arith, ap (slice_index bytes) (sym back) ∙ k)

  -- the place at which a place is shown is shown at itself
  pub shown-shown : (p : Point) → IsShown bytes (shown bytes p)
  shown-shown p =
      let q = point p.line p.column (p.index - 1) p.vs in
      let test = (slice_index bytes p.index == 10) && follows_cr bytes p.index in
      cond_both test q p (IsShown bytes) (λ e. shown-other bytes q (follows-back p.index (and_parts (slice_index bytes p.index == 10) (follows_cr bytes p.index) e).1)) (λ e. cond-false test q p e)

-- one of these seats
pub record IsAmong (s : Seat) (xs : List Seat) : Type 0 where
  pub front : List Seat
  pub back : List Seat
  pub splits : xs ≡ front ++ s ∷ back

module _ (t : ℕ) (bytes : List ℕ) (d : 0 < t) where
  chain-after : (xs ys : List Seat) → virtual t bytes ≡ xs ++ ys → IsChain t bytes (end_after (point 1 1 0 0) xs) ys
  chain-after xs ys e = chain-split t bytes (point 1 1 0 0) xs ys (subst (IsChain t bytes (point 1 1 0 0)) e (whole-chain t bytes d))

  -- the place after some of the virtual bytes
  pub place-after : (xs ys : List Seat) → virtual t bytes ≡ xs ++ ys → IsPlace t bytes (end_after (point 1 1 0 0) xs)
  place-after xs ys e =
      let c = subst (IsChain t bytes (point 1 1 0 0)) e (whole-chain t bytes d) in
      let at = chain-at t bytes (end_after (point 1 1 0 0) xs) ys (chain-split t bytes (point 1 1 0 0) xs ys c) in
      record {
        before = xs;
        splits = e ∙ ap (λ (zs : List Seat). xs ++ zs) (sym at.is);
        behind = chain-behind t bytes (point 1 1 0 0) xs ys c;
        stands = at.shown;
        bounds = at.bounds;
      }

  pub rest-after : (xs ys : List Seat) → virtual t bytes ≡ xs ++ ys → rest_at t bytes (end_after (point 1 1 0 0) xs) ≡ ys
  rest-after xs ys e = (chain-at t bytes (end_after (point 1 1 0 0) xs) ys (chain-after xs ys e)).is

  pub end-place : IsPlace t bytes (document_end t bytes)
  end-place = place-after (virtual t bytes) [] (sym (append-nil (virtual t bytes)))

  module _ (xs : List Seat) (s : Seat) (ys : List Seat) (e : virtual t bytes ≡ xs ++ s ∷ ys) where
    pub seat-begins : Begins t bytes (end_after (point 1 1 0 0) xs) s ys
    seat-begins = (chain-after xs (s ∷ ys) e).1

    -- each place where it is next, as its own and where it is shown, is a place of the document
    place-here : (q : Point) → rest_at t bytes q ≡ s ∷ ys → Bounds t bytes q → shown bytes q ≡ end_after (point 1 1 0 0) xs → stands_before q (end_after (point 1 1 0 0) xs) ≡ false → IsPlace t bytes q
    place-here q rest bounds stands later =
        let p = end_after (point 1 1 0 0) xs in
        record {
          before = xs;
          splits = e ∙ ap (λ (zs : List Seat). xs ++ zs) (sym rest);
          behind = every-map (λ r. stands_before r.point p ≡ true) (λ r. stands_before r.point q ≡ true) (λ r h. before-upto r.point.index r.point.vs p.index p.vs q.index q.vs h later) xs
              (chain-behind t bytes (point 1 1 0 0) xs (s ∷ ys) (subst (IsChain t bytes (point 1 1 0 0)) e (whole-chain t bytes d)));
          stands = stands;
          bounds = bounds;
        }

    -- no LF of a CR LF is at the place after it
    pub after-shown : IsShown bytes s.end
    after-shown = (chain-at t bytes s.end ys (chain-after xs (s ∷ ys) e).2).shown

  seats-are-places : (xs ys : List Seat) → virtual t bytes ≡ xs ++ ys → AllByRecursion (IsPlace t bytes) (flat_map (λ s. shown bytes s.point ∷ s.point ∷ []) ys)
  seats-are-places xs [] e = tt
  seats-are-places xs (s ∷ ys) e =
      let b = seat-begins xs s ys e in (
        place-here xs s ys e (shown bytes s.point) b.at_shown b.shown_bounds (shown-shown t bytes s.point ∙ b.shown_is) b.shown_later,
        (place-here xs s ys e s.point b.at_seat b.seat_bounds b.shown_is b.later, seats-are-places (xs ++ s ∷ []) ys (e ∙ sym (append_assoc xs (s ∷ []) ys))),
      )

  -- the point of a place of the document is one that its numbers describe
  pub place-of-point : (p : Point) → IsPointOf t bytes p → IsPlace t bytes p
  place-of-point p h = All-contains (IsPlace t bytes) (points t bytes) p (All-from_recursion (IsPlace t bytes) (points t bytes)
      (every-append (IsPlace t bytes) (flat_map (λ s. shown bytes s.point ∷ s.point ∷ []) (virtual t bytes)) (document_end t bytes ∷ []) (seats-are-places [] (virtual t bytes) refl)
      (end-place, tt))) h

-- the next virtual byte from a place on
module _ (t : ℕ) (bytes : List ℕ) (d : 0 < t) (p : Point) (seat : Seat) (place : IsPlace t bytes p) (n : IsSeatAt t bytes p seat) where
  pub seat-splits : virtual t bytes ≡ place.before ++ seat ∷ n.after
  seat-splits = place.splits ∙ ap (λ (ys : List Seat). place.before ++ ys) n.is

  pub next-begins : Begins t bytes (end_after (point 1 1 0 0) place.before) seat n.after
  next-begins = seat-begins t bytes d place.before seat n.after seat-splits

  pub end-seat-place : IsPlace t bytes seat.end
  end-seat-place = subst (IsPlace t bytes) (end-after-one (point 1 1 0 0) place.before seat)
      (place-after t bytes d (place.before ++ seat ∷ []) n.after (seat-splits ∙ sym (append_assoc place.before (seat ∷ []) n.after)))

  pub seat-rest : rest_at t bytes seat.end ≡ n.after
  seat-rest = (chain-at t bytes seat.end n.after (chain-after t bytes d place.before (seat ∷ n.after) seat-splits).2).is

  -- a step to its end comes to a place, and has only what follows it left
  pub steps : (q : Point) → q ≡ seat.end → IsPlace t bytes q × (rest_at t bytes p ≡ seat ∷ rest_at t bytes q)
  steps q is = (subst (IsPlace t bytes) (sym is) end-seat-place, n.is ∙ ap (λ (ys : List Seat). seat ∷ ys) (sym (ap (rest_at t bytes) is ∙ seat-rest)))

  pub seat-shown : IsShown bytes seat.end
  seat-shown = after-shown t bytes d place.before seat n.after seat-splits

  -- the seat's end is after the place
  pub seat-passes : stands_before seat.end p ≡ false
  seat-passes = later-later seat.end.index seat.end.vs seat.point.index seat.point.vs p.index p.vs (after-before seat.point.index seat.point.vs seat.end.index seat.end.vs next-begins.ends) n.later

  -- the place at which the next virtual byte ends, read from the bytes
  there : StandsThere bytes p seat
  there = stands-there t bytes p seat d place.bounds.tab n

  ends-at : (q : Point) → seat.point ≡ q → end_at t seat.byte q ≡ seat.end
  ends-at q e = ap (end_at t seat.byte) (sym e) ∙ next-begins.end_is

  -- after a line ending, of two bytes if a CR LF is there,
  pub end-of-line : (w : Bool) → seat.byte ≡ 10 → begins_pair bytes p.index ≡ w → point (p.line + 1) 1 (p.index + cond w 2 1) 0 ≡ seat.end
  end-of-line true b pair = elim there [
    | inl h ↦ absurd (let f = sym pair ∙ h.1 b in cc)
    | inr h ↦ same-numbers (p.line + 1) 1 (p.index + 2) 0 (suc p.line) 1 (suc (suc p.index)) 0 (omega arith) refl (omega arith) refl
        ∙ (rw b at (ends-at (point p.line p.column (suc p.index) p.vs) h.2))
  ]
  end-of-line false b single = elim there [
    | inl h ↦ same-numbers (p.line + 1) 1 (p.index + 1) 0 (suc p.line) 1 (suc p.index) 0 (omega arith) refl (omega arith) refl ∙ (rw b at (ends-at p h.0))
    | inr h ↦ absurd (let f = sym single ∙ h.0 in cc)
  ]

  -- and after another byte
  pub end-of-other : seat.byte ≢ 10 → (w : Bool) → goes_on t seat.byte p ≡ w → cond w (point p.line (p.column + 1) p.index (p.vs + 1)) (point p.line (p.column + 1) (p.index + 1) 0) ≡ seat.end
  end-of-other b w e =
      let f = not-number seat.byte 10 b in
      let is : end_at t seat.byte p ≡ cond w (point p.line (p.column + 1) p.index (p.vs + 1)) (point p.line (p.column + 1) (p.index + 1) 0) =
      rw (f, e, add-one p.column, add-one p.index, add-one p.vs) refl in
      sym is ∙ ends-at p (elim there [ inl h ↦ h.0 | inr h ↦ absurd (b h.1) ])
