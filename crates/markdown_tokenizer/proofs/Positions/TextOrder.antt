-- The virtual bytes of a text are in order: each begins before it ends, and none begins before the previous one ends.
use Rattle.markdown_tokenizer.proofs.Prelude.{AllByRecursion, ◌≡◌, ℕ, zero, suc, ◌+◌, Nothing, ◌<◌, List, [], ◌∷◌, ◌++◌, true, false, Option, Some, None, length, refl, sym, ap, append_assoc, append_cancel_left, rest_at, IsPlace, ◌∙◌, subst, arith, inl, inr, slice_get, filter, slice_get_cases, Point, Seat, point, virtual, stands_before, shown, IsShown, is_upto, denotes_same, every-append, every-map, every-get, Byte, Given, Text, Piece, pushed, passed, IsText, empty_text, followed_by, followed_by_all, FitsAfter, CanFollow, in_range, sight_in, byte_of, seat_before, end_or, end_place}
use Rattle.std.proofs.lemmas.Bool.{cond_both}
use Rattle.markdown_tokenizer.proofs.Positions.Order.{after-before, before-upto, upto-before, later-later, every-front, every-back}
use Rattle.markdown_tokenizer.proofs.Positions.Seats.{rest-later}
use Rattle.markdown_tokenizer.proofs.Positions.Chains.{IsChain, whole-chain}
use Rattle.markdown_tokenizer.proofs.Positions.Standing.{chain-at, shown-upto, place-of-point}
use Rattle.markdown_tokenizer.proofs.Positions.Cursors.{left_of, text-splits, range-empty, upto-self, upto-order, same-behind}
use Rattle.markdown_tokenizer.proofs.Positions.Lines.{way-rest}

-- a virtual byte begins before it ends, at a place that is shown at itself
abbrev pub IsGood : List ℕ → Seat → Type 0
IsGood bytes s = (stands_before s.point s.end ≡ true) × IsShown bytes s.end

-- a virtual byte comes after another: it begins after it, and not before that one ends
abbrev pub Follows : Seat → Seat → Type 0
Follows s r = (stands_before s.point r.point ≡ true) × (stands_before r.point s.end ≡ false)

-- virtual bytes, each good, in order
abbrev pub AreInOrder : List ℕ → List Seat → Type 0
AreInOrder bytes [] = Unit {0}
AreInOrder bytes (s ∷ ss) = IsGood bytes s × AllByRecursion (Follows s) ss × AreInOrder bytes ss

module _ (bytes : List ℕ) where
  order-front : (xs ys : List Seat) → AreInOrder bytes (xs ++ ys) → AreInOrder bytes xs
  order-front [] ys h = tt
  order-front (s ∷ ss) ys h = (h.0, every-front (Follows s) ss ys h.1, order-front ss ys h.2)

  order-back : (xs ys : List Seat) → AreInOrder bytes (xs ++ ys) → AreInOrder bytes ys
  order-back [] ys h = h
  order-back (s ∷ ss) ys h = order-back ss ys h.2

  order-without : (xs ys zs : List Seat) → AreInOrder bytes (xs ++ (ys ++ zs)) → AreInOrder bytes (xs ++ zs)
  order-without [] ys zs h = order-back ys zs h
  order-without (s ∷ ss) ys zs h =
      let F = Follows s in
      (h.0, every-append F ss zs (every-front F ss (ys ++ zs) h.1) (every-back F ys zs (every-back F ss (ys ++ zs) h.1)), order-without ss ys zs h.2)

-- a text in order: what it has, and then what is left where it ends, is in order and not before its start
record IsInOrder (g : Given) (text : Text) : Type 0 where
  at : IsPlace g.tab g.bytes text.end
  order : AreInOrder g.bytes (text.seats ++ rest_at g.tab g.bytes text.end)
  after_start : AllByRecursion (λ s. stands_before s.point text.start ≡ false) (text.seats ++ rest_at g.tab g.bytes text.end)

module _ (t : ℕ) (bytes : List ℕ) where
  chain-order : (p : Point) (xs : List Seat) → IsChain t bytes p xs → AreInOrder bytes xs
  chain-order p [] c = tt
  chain-order p (s ∷ ss) c =
      let at = chain-at t bytes s.end ss c.2 in (
        (c.1.ends, at.shown),
        every-map (λ r. stands_before r.point s.end ≡ false) (Follows s) (λ r h. (before-upto s.point.index s.point.vs s.end.index s.end.vs r.point.index r.point.vs c.1.ends h, h)) ss
            (subst (AllByRecursion (λ r. stands_before r.point s.end ≡ false)) at.is (rest-later t bytes s.end)),
        chain-order s.end ss c.2,
      )

  pub virtual-order : 0 < t → AreInOrder bytes (virtual t bytes)
  virtual-order d = chain-order (point 1 1 0 0) (virtual t bytes) (whole-chain t bytes d)

module _ (g : Given) (d : 0 < g.tab) where
  piece-order : (text : Text) (piece : Piece) → IsInOrder g text → FitsAfter g text piece → IsInOrder g (followed_by g text piece)
  piece-order text (pushed from to) h fits =
      let a = place-of-point g.tab g.bytes d from fits.0 in
      let b = place-of-point g.tab g.bytes d to fits.1 in
      let more = filter (in_range from to) (virtual g.tab g.bytes) in
      let rest = rest_at g.tab g.bytes to in
      let all = rest_at g.tab g.bytes text.end in
      let range : more ≡ left_of g.tab g.bytes from to = text-splits g.tab g.bytes from from to a (upto-self g.tab g.bytes from) fits.3
      ∙ ap (λ (xs : List Seat). xs ++ left_of g.tab g.bytes from to) (range-empty g.tab g.bytes from) in
      let same : rest_at g.tab g.bytes from ≡ all = append_cancel_left a.before (rest_at g.tab g.bytes from) all
      (sym a.splits ∙ h.at.splits ∙ ap (λ (xs : List Seat). xs ++ all) (sym (same-behind g.tab g.bytes from text.end a h.at fits.2))) in
      let left : more ++ rest ≡ all = ap (λ (xs : List Seat). xs ++ rest) range ∙ sym (way-rest g.tab g.bytes d from to a b fits.3) ∙ same in
      let whole : text.seats ++ all ≡ (text.seats ++ more) ++ rest = sym (append_assoc text.seats more rest ∙ ap (λ (ys : List Seat). text.seats ++ ys) left) in
      record { at = b; order = subst (AreInOrder g.bytes) whole h.order; after_start = subst (AllByRecursion (λ s. stands_before s.point text.start ≡ false)) whole h.after_start }
  piece-order text (passed p) h fits = cond_both (denotes_same g.tab g.bytes p text.end) text (record { start = text.start; seats = text.seats; end = p }) (IsInOrder g) (λ e. h) (λ other.
      let P = λ (s : Seat). stands_before s.point text.start ≡ false in
      let left = left_of g.tab g.bytes text.end p in
      let rest = rest_at g.tab g.bytes p in
      let all = rest_at g.tab g.bytes text.end in
      let at = place-of-point g.tab g.bytes d p fits.0 in
      let on : is_upto g.tab g.bytes text.end p ≡ true = elim fits.1 [
        | inl same ↦ absurd (let e : true ≡ false = sym same ∙ other in cc)
        | inr later ↦ upto-order g.tab g.bytes text.end p (after-before text.end.index text.end.vs p.index p.vs later.2)
      ] in
      let splits : all ≡ left ++ rest = way-rest g.tab g.bytes d text.end p h.at at on in
      record {
        at = at;
        order = order-without g.bytes text.seats left rest (subst (λ (ys : List Seat). AreInOrder g.bytes (text.seats ++ ys)) splits h.order);
        after_start = every-append P text.seats rest (every-front P text.seats all h.after_start) (every-back P left rest (subst (AllByRecursion P) splits (every-back P text.seats all h.after_start)));
      })

  pieces-order : (text : Text) (pieces : List Piece) → IsInOrder g text → CanFollow g text pieces → IsInOrder g (followed_by_all g text pieces)
  pieces-order text [] h fits = h
  pieces-order text (piece ∷ rest) h fits = pieces-order (followed_by g text piece) rest (piece-order text piece h fits.0) fits.1

-- the virtual bytes of a text are in order, and none is before its start
pub text-order : (g : Given) (text : Text) → IsText g text → AreInOrder g.bytes text.seats × AllByRecursion (λ s. stands_before s.point text.start ≡ false) text.seats
text-order g text is =
    let some : 0 < g.tab = omega (arith, is.document.tab.0) in
    let place = place-of-point g.tab g.bytes some text.start is.starts in
    let rest = rest_at g.tab g.bytes text.start in
    let start : IsInOrder g (empty_text text.start) = record { at = place; order = order-back g.bytes place.before rest (subst (AreInOrder g.bytes) place.splits (virtual-order g.tab g.bytes some)); after_start = rest-later g.tab g.bytes text.start } in
    let all = subst (IsInOrder g) (sym is.is) (pieces-order g some (empty_text text.start) is.pieces start is.follow) in
    (order-front g.bytes text.seats (rest_at g.tab g.bytes text.end) all.order, every-front (λ s. stands_before s.point text.start ≡ false) text.seats (rest_at g.tab g.bytes text.end) all.after_start)

pub order-get : (bytes : List ℕ) (xs : List Seat) (i : ℕ) (s : Seat) → AreInOrder bytes xs → slice_get xs i ≡ Some s → IsGood bytes s × ((r : Seat) → slice_get xs (suc i) ≡ Some r → Follows s r)
order-get bytes [] i s h e = absurd (cc)
order-get bytes (x ∷ xs) zero s h e =
    let is : x ≡ s = cc in
    subst (λ (y : Seat). IsGood bytes y × ((r : Seat) → slice_get xs 0 ≡ Some r → Follows y r)) is (h.0, λ r f. every-get (Follows x) xs 0 r h.1 f)
order-get bytes (x ∷ xs) (suc i) s h e = order-get bytes xs i s h.2 e

pub there : (text : Text) (p : ℕ) → p < length text.seats → (s : Seat) × (slice_get text.seats p ≡ Some s)
there text p h = elim (slice_get_cases text.seats p).1 [ inl found ↦ (found.0, found.2) | inr past ↦ absurd (omega (arith, past.0)) ]

-- A byte that waits begins before it ends
pub begins-before_end : (g : Given) (text : Text) (p : ℕ) → IsText g text → p < length text.seats
    → stands_before (sight_in g text p Byte).enter_place (sight_in g text p Byte).next ≡ true
begins-before_end g text p is inside =
    let (s, at) = there text p inside in
    let good = (order-get g.bytes text.seats p s (text-order g text is).0 at).0 in
    let q = shown g.bytes s.point in
    rw at (rw good.1 (upto-before q.index q.vs s.point.index s.point.vs s.end.index s.end.vs (shown-upto 0 g.bytes s.point) good.0))

-- The byte before ends before the end of the byte that waits
pub ends-before_next : (g : Given) (text : Text) (p : ℕ) → IsText g text → p < length text.seats
    → stands_before (sight_in g text p Byte).exit_place (sight_in g text p Byte).next ≡ true
ends-before_next g text zero is inside =
    let (s, at) = there text 0 inside in
    let order = text-order g text is in
    let good = (order-get g.bytes text.seats 0 s order.0 at).0 in
    let after = every-get (λ r. stands_before r.point text.start ≡ false) text.seats 0 s order.1 at in
    let start = text.start in
    let shown_start = shown g.bytes start in
    let later = later-later s.point.index s.point.vs start.index start.vs shown_start.index shown_start.vs after (shown-upto 0 g.bytes start) in
    rw at (rw good.1 (upto-before shown_start.index shown_start.vs s.point.index s.point.vs s.end.index s.end.vs later good.0))
ends-before_next g text (suc j) is inside =
    let (s, at) = there text (suc j) inside in
    let (r, at_before) = there text j (omega arith) in
    let order = text-order g text is in
    let good = (order-get g.bytes text.seats (suc j) s order.0 at).0 in
    let before = order-get g.bytes text.seats j r order.0 at_before in
    rw (at, at_before) (rw (good.1, before.0.1) (upto-before r.end.index r.end.vs s.point.index s.point.vs s.end.index s.end.vs (before.1 s at).1 good.0))

-- What began before the end of the byte before began before the end of the byte that waits
pub began-before_next : (g : Given) (text : Text) (p : ℕ) (q : Point) → IsText g text → p < length text.seats
    → stands_before q (sight_in g text p Byte).exit_place ≡ true → stands_before q (sight_in g text p Byte).next ≡ true
began-before_next g text p q is inside h =
    let e = (sight_in g text p Byte).exit_place in
    let n = (sight_in g text p Byte).next in
    before-upto q.index q.vs e.index e.vs n.index n.vs h (after-before e.index e.vs n.index n.vs (ends-before_next g text p is inside))

-- what is not after the end of the byte before is not after the end of the byte that waits, which is the place of an exit once it is consumed
pub noted-later : (g : Given) (text : Text) (p : ℕ) (q : Point) → IsText g text → p < length text.seats
    → stands_before (sight_in g text p Byte).exit_place q ≡ false → stands_before (sight_in g text (p + 1) Nothing).exit_place q ≡ false
noted-later g text p q is inside h =
    let (s, at) = there text p inside in
    let e = (sight_in g text p Byte).exit_place in
    let n = (sight_in g text p Byte).next in
    let next : p + 1 ≡ suc p = omega arith in
    let step : stands_before n q ≡ false = later-later n.index n.vs e.index e.vs q.index q.vs (after-before e.index e.vs n.index n.vs (ends-before_next g text p is inside)) h in
    rw next (rw at (rw at at step))

-- the place after a byte that was read is shown at itself
pub read-shown : (g : Given) (text : Text) → IsText g text → (p byte : ℕ) → byte_of (seat_before text p) ≡ Some byte → IsShown g.bytes (end_place text p)
read-shown g text is zero byte e = absurd cc
read-shown g text is (suc q) byte e = found (slice_get text.seats q) refl e
  where
    found : (o : Option Seat) → slice_get text.seats q ≡ o → byte_of o ≡ Some byte → IsShown g.bytes (end_or text.start o)
    found None at e = absurd cc
    found (Some s) at e = (order-get g.bytes text.seats q s (text-order g text is).0 at).0.1
