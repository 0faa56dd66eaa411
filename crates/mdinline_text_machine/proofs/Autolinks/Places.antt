-- In a text, a virtual byte that is no line ending ends where the next is shown: gaps are only at the starts of lines.
use Rattle.mdconstructs_machines.proofs.Columns.{end-column}
use Rattle.mdinline_text_machine.proofs.Prelude.{AllByRecursion, ◌≡◌, ℕ, zero, suc, ◌+◌, ◌<◌, ◌==◌, List, [], ◌∷◌, ◌++◌, Bool, true, false, cond, Some, refl, sym, ap, ◌∙◌, subst, arith, inl, inr, slice_get, filter, append_cancel_right, every-append, every-filter, Point, Seat, point, virtual, end_after, shown, is_upto, denotes_same, rest_at, IsPlace, goes_on, Given, Text, Piece, pushed, passed, IsText, empty_text, followed_by, followed_by_all, FitsAfter, CanFollow, IsChain, whole-chain, chain-at, place-of-point, upto-self, left_of, text-splits, range-empty, shown-column, same-shown}
use Rattle.std.proofs.Common.{append_assoc}
use Rattle.markdown_tokenizer.proofs.Positions.Lines.{way-chain, way-ends, way-rest}
use Rattle.markdown_tokenizer.specs.Text.{in_range}
use Rattle.mdinline_text_machine.proofs.Autolinks.Events.{IsJoined}

-- the place at which the first of these is shown, or this one if there is none
abbrev begin_or : List ℕ → List Seat → Point → Point
begin_or bytes [] p = p
begin_or bytes (s ∷ ss) p = shown bytes s.point

-- each that is no line ending ends where the next is shown, and the last at a place
abbrev AreJoined : List ℕ → List Seat → Point → Type 0
AreJoined bytes [] p = Unit {0}
AreJoined bytes (s ∷ ss) p = ((s.byte == 10) ≡ false → shown bytes s.end ≡ begin_or bytes ss p) × AreJoined bytes ss p

-- a virtual byte that is no line ending does not end at the start of a line
abbrev pub EndsInLine : Seat → Type 0
EndsInLine s = (s.byte == 10) ≡ false → 1 < s.end.column

module _ (bytes : List ℕ) where
  -- lists one after another
  begin-append : (xs ys : List Seat) (p : Point) → begin_or bytes (xs ++ ys) p ≡ begin_or bytes xs (begin_or bytes ys p)
  begin-append [] ys p = refl
  begin-append (x ∷ xs) ys p = refl

  -- they are joined if each is, and the first to the second
  joined-append : (xs ys : List Seat) (p : Point) → AreJoined bytes xs (begin_or bytes ys p) → AreJoined bytes ys p → AreJoined bytes (xs ++ ys) p
  joined-append [] ys p h k = k
  joined-append (x ∷ xs) ys p h k = ((λ e. h.0 e ∙ sym (begin-append xs ys p)), joined-append xs ys p h.1 k)

  -- at the beginning of a line the place behind the last may be another
  joined-line : (xs : List Seat) (p q : Point) → AllByRecursion EndsInLine xs → AreJoined bytes xs (shown bytes p) → p.column ≡ 1 → AreJoined bytes xs q
  joined-line [] p q cols h one = tt
  joined-line (x ∷ []) p q cols h one = (
    (λ e.
        let same : x.end.column ≡ p.column = sym (shown-column bytes x.end) ∙ ap (λ (r : Point). r.column) (h.0 e) ∙ shown-column bytes p in
        absurd (omega (arith, same, cols.0 e, one))),
    tt,
  )
  joined-line (x ∷ y ∷ ys) p q cols h one = (h.0, joined-line (y ∷ ys) p q cols.1 h.1 one)

  -- so it is at each of them
  joined-at : (xs : List Seat) (p : Point) (i : ℕ) (s r : Seat) → AreJoined bytes xs p → slice_get xs i ≡ Some s → slice_get xs (suc i) ≡ Some r → (s.byte == 10) ≡ false → shown bytes s.end ≡ shown bytes r.point
  joined-at [] p i s r h e f plain = absurd (cc)
  joined-at (x ∷ []) p zero s r h e f plain = absurd (cc)
  joined-at (x ∷ y ∷ ys) p zero s r h e f plain =
      let first : x ≡ s = cc in
      let second : y ≡ r = cc in
      ap (λ (z : Seat). shown bytes z.end) (sym first) ∙ h.0 (ap (λ (z : Seat). z.byte == 10) first ∙ plain) ∙ ap (λ (z : Seat). shown bytes z.point) second
  joined-at (x ∷ xs) p (suc i) s r h e f plain = joined-at xs p i s r h.1 e f plain

module _ (t : ℕ) (bytes : List ℕ) where
  -- so it does not end at the start of a line
  pub chain-in-line : (p : Point) (xs : List Seat) → IsChain t bytes p xs → AllByRecursion EndsInLine xs
  chain-in-line p [] c = tt
  chain-in-line p (s ∷ ss) c = (
    (λ plain.
        let column : s.end.column ≡ suc s.point.column = ap (λ (q : Point). q.column) (sym c.1.end_is) ∙ end-column t s.byte s.point (goes_on t s.byte s.point) plain refl in
        omega (arith, column, c.1.seat_bounds.first)),
    chain-in-line s.end ss c.2,
  )

  -- the virtual bytes of a chain are joined, up to its end
  chain-begins : (p : Point) (xs ys : List Seat) → IsChain t bytes p (xs ++ ys) → begin_or bytes xs (end_after p xs) ≡ p
  chain-begins p [] ys c = refl
  chain-begins p (s ∷ ss) ys c = c.1.shown_is

  -- and each ends where the next is shown
  chain-joined : (p : Point) (xs ys : List Seat) → IsChain t bytes p (xs ++ ys) → AreJoined bytes xs (end_after p xs)
  chain-joined p [] ys c = tt
  chain-joined p (s ∷ ss) ys c = ((λ e. (chain-at t bytes s.end (ss ++ ys) c.2).shown ∙ sym (chain-begins s.end ss ys c.2)), chain-joined s.end ss ys c.2)

  -- the seats from a place on before another
  module _ (d : 0 < t) (a b : Point) (first : IsPlace t bytes a) (second : IsPlace t bytes b) (upto : is_upto t bytes a b ≡ true) where
    -- the seats before the second are those before the first, and these
    pub before-grows : second.before ≡ first.before ++ left_of t bytes a b
    before-grows =
        let left = left_of t bytes a b in
        let behind = rest_at t bytes b in
        append_cancel_right second.before (first.before ++ left) behind
        (sym second.splits ∙ first.splits ∙ ap (λ (xs : List Seat). first.before ++ xs) (way-rest t bytes d a b first second upto) ∙ sym (append_assoc first.before left behind))

    -- these are what a range pushes
    pub range-is : filter (in_range a b) (virtual t bytes) ≡ left_of t bytes a b
    range-is = text-splits t bytes a a b first (upto-self t bytes a) upto ∙ ap (λ (xs : List Seat). xs ++ left_of t bytes a b) (range-empty t bytes a)

-- a text that ends at a place, and whose virtual bytes are joined up to there
record IsJoinedToEnd (g : Given) (text : Text) : Type 0 where
  place : IsPlace g.tab g.bytes text.end
  in_line : AllByRecursion EndsInLine text.seats
  joined : AreJoined g.bytes text.seats (shown g.bytes text.end)

module _ (g : Given) (d : 0 < g.tab) where
  -- behind a gap
  passed-stands : (b : Bool) (text : Text) (p : Point) → IsJoinedToEnd g text → IsPlace g.tab g.bytes p → (b ≡ false → text.end.column ≡ 1) → IsJoinedToEnd g (cond b text (record { start = text.start; seats = text.seats; end = p }))
  passed-stands true text p h place line = h
  passed-stands false text p h place line = record { place = place; in_line = h.in_line; joined = joined-line g.bytes text.seats text.end (shown g.bytes p) h.in_line h.joined (line refl) }

  -- behind a range, or a gap
  piece-stands : (text : Text) (piece : Piece) → IsJoinedToEnd g text → FitsAfter g text piece → IsJoinedToEnd g (followed_by g text piece)
  piece-stands text (pushed from to) h fits =
      let a = place-of-point g.tab g.bytes d from fits.0 in
      let b = place-of-point g.tab g.bytes d to fits.1 in
      let more = left_of g.tab g.bytes from to in
      let rest = rest_at g.tab g.bytes to in
      let chain = way-chain g.tab g.bytes d from to a b fits.3 in
      let ends = way-ends g.tab g.bytes d from to a b fits.3 in
      let same : shown g.bytes text.end ≡ shown g.bytes from = sym (same-shown g.tab g.bytes from text.end a h.place fits.2) in
      let begins : begin_or g.bytes more (shown g.bytes to) ≡ shown g.bytes from = ap (begin_or g.bytes more) ends ∙ chain-begins g.tab g.bytes (shown g.bytes from) more rest chain in
      let before : AreJoined g.bytes text.seats (begin_or g.bytes more (shown g.bytes to)) = subst (AreJoined g.bytes text.seats) (same ∙ sym begins) h.joined in
      let behind : AreJoined g.bytes more (shown g.bytes to) = subst (AreJoined g.bytes more) (sym ends) (chain-joined g.tab g.bytes (shown g.bytes from) more rest chain) in record {
        place = b;
        in_line = every-append EndsInLine text.seats (filter (in_range from to) (virtual g.tab g.bytes)) h.in_line
            (every-filter EndsInLine (in_range from to) (virtual g.tab g.bytes) (chain-in-line g.tab g.bytes (point 1 1 0 0) (virtual g.tab g.bytes) (whole-chain g.tab g.bytes d)));
        joined = subst (λ (ys : List Seat). AreJoined g.bytes (text.seats ++ ys) (shown g.bytes to)) (sym (range-is g.tab g.bytes d from to a b fits.3))
            (joined-append g.bytes text.seats more (shown g.bytes to) before behind);
      }
  piece-stands text (passed p) h fits =
      passed-stands (denotes_same g.tab g.bytes p text.end) text p h (place-of-point g.tab g.bytes d p fits.0)
      (elim fits.1 [ inl same ↦ λ not_same. absurd (let e : true ≡ false = sym same ∙ not_same in cc) | inr later ↦ λ not_same. later.0 ])

  -- and behind all
  pieces-stand : (text : Text) (pieces : List Piece) → IsJoinedToEnd g text → CanFollow g text pieces → IsJoinedToEnd g (followed_by_all g text pieces)
  pieces-stand text [] h fits = h
  pieces-stand text (piece ∷ rest) h fits = pieces-stand (followed_by g text piece) rest (piece-stands text piece h fits.0) fits.1

-- The virtual bytes of a text are joined, but not at the starts of lines
pub text-joined : (g : Given) (text : Text) → IsText g text → IsJoined g text
text-joined g text is p s r at next plain =
    let d : 0 < g.tab = omega (arith, is.document.tab.0) in
    let empty : IsJoinedToEnd g (empty_text text.start) = record { place = place-of-point g.tab g.bytes d text.start is.starts; in_line = tt; joined = tt } in
    let stands = subst (IsJoinedToEnd g) (sym is.is) (pieces-stand g d (empty_text text.start) is.pieces empty is.follow) in
    let one : p + 1 ≡ suc p = omega arith in
    joined-at g.bytes text.seats (shown g.bytes text.end) p s r stands.joined at (ap (slice_get text.seats) (sym one) ∙ next) plain
