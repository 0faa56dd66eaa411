-- What comes in the place of a run stands between its first place and its last, in order.
use Rattle.std.proofs.Common.{◌≡◌, ◌+◌, ◌∙◌, ℕ, zero, suc, List, [], ◌∷◌, ◌++◌, false, arith, subst, sym}
use Rattle.std.proofs.lemmas.Bool.Decides.{nat_tests}
use Rattle.std.specs.List.{AllByRecursion}
use Rattle.markdown_base.proofs.Orders.{InOrder, order-both}
use Rattle.markdown_base.proofs.Seats.{stands-self}
use Rattle.markdown_base.specs.declared.event.Event.{Event}
use Rattle.markdown_base.specs.declared.event.Point.{Point}
use Rattle.markdown_base.specs.Places.{stands_before}
use Rattle.markdown_base.proofs.Common.{every-append}
use Rattle.mdinline_emphasis.specs.declared.pairs.Style.{Style}
use Rattle.mdinline_emphasis.specs.Emphasis.{Run, closings, data_of, later, markers_of, markers_of_all, openings}
use Rattle.mdinline_emphasis.specs.Places.{markers}
use Rattle.mdinline_emphasis.specs.RunEdits.{in_place}
use Rattle.mdinline_links.specs.Places.{AreSteps}

-- ---- places some bytes later
pub later-later : (a b : ℕ) (p : Point) → later a (later b p) ≡ later (b + a) p
later-later a b p =
    let column : (p.column + b) + a ≡ p.column + (b + a) = omega arith in
    let index : (p.index + b) + a ≡ p.index + (b + a) = omega arith in
    λ i. record p { column = column i; index = index i }

pub later-none : (p : Point) → later 0 p ≡ p
later-none p =
    let column : p.column + 0 ≡ p.column = omega arith in
    let index : p.index + 0 ≡ p.index = omega arith in
    λ i. record p { column = column i; index = index i }

pub upto-later : (n : ℕ) (p : Point) → stands_before (later n p) p ≡ false
upto-later n p = grind (arith, nat_tests)

module _ (At : Point → Type 0) where
  -- Events between two places, in order, each at one of these places
  pub record Ordered (p : Point) (es : List Event) (q : Point) : Type 0 where
    pub order : InOrder p es q
    pub places : AllByRecursion (λ (e : Event). At e.point) es

  pub ordered-both : (p m q : Point) (xs ys : List Event) → Ordered p xs m → Ordered m ys q → Ordered p (xs ++ ys) q
  ordered-both p m q xs ys h k = record { order = order-both p xs m ys q h.order k.order; places = every-append (λ (e : Event). At e.point) xs ys h.places k.places }

  pub steps-on : (p : Point) (m n : ℕ) → AreSteps At p (m + n) → AreSteps At (later m p) n
  steps-on p m n h k l = subst At (sym (later-later k m p)) (h (m + k) (omega (arith, l)))

  pub steps-front : (p : Point) (m n : ℕ) → AreSteps At p (m + n) → AreSteps At p m
  steps-front p m n h k l = h k (omega (arith, l))

  pub steps-here : (p : Point) (n : ℕ) → AreSteps At p n → At p
  steps-here p n h = subst At (later-none p) (h 0 (omega arith))

  ordered-none : (p : Point) → Ordered p [] (later 0 p)
  ordered-none p = record { order = upto-later 0 p; places = tt }

  -- ---- what comes in place of a run
  ordered-closings : (p : Point) (ss : List Style) → AreSteps At p (markers_of_all ss) → Ordered p (closings p ss) (later (markers_of_all ss) p)
  ordered-closings p [] h = ordered-none p
  ordered-closings p (s ∷ ss) h =
      let m = markers_of s in
      let q = later m p in
      let here = steps-here p (m + markers_of_all ss) h in
      let there = h m (omega arith) in
      let more = ordered-closings q ss (steps-on p m (markers_of_all ss) h) in
      let end = subst (Ordered q (closings q ss)) (later-later (markers_of_all ss) m p) more in
      record { order = (stands-self p, (stands-self p, (upto-later m p, (stands-self q, end.order)))); places = (here, (here, (there, (there, end.places)))) }

  ordered-openings : (p : Point) (ss : List Style) → AreSteps At p (markers_of_all ss) → Ordered p (openings p ss) (later (markers_of_all ss) p)
  ordered-openings p [] h = ordered-none p
  ordered-openings p (s ∷ ss) h =
      let m = markers_of s in
      let q = later m p in
      let here = steps-here p (m + markers_of_all ss) h in
      let there = h m (omega arith) in
      let more = ordered-openings q ss (steps-on p m (markers_of_all ss) h) in
      let end = subst (Ordered q (openings q ss)) (later-later (markers_of_all ss) m p) more in
      record { order = (stands-self p, (stands-self p, (upto-later m p, (stands-self q, end.order)))); places = (here, (here, (there, (there, end.places)))) }

  ordered-data : (p : Point) (n : ℕ) → AreSteps At p n → Ordered p (data_of p n) (later n p)
  ordered-data p zero h = ordered-none p
  ordered-data p (suc n) h = record { order = (stands-self p, (upto-later (suc n) p, stands-self (later (suc n) p))); places = (steps-here p (suc n) h, (h (suc n) (omega arith), tt)) }

  pub ordered-place : (r : Run) → AreSteps At r.start (markers r) → Ordered r.start (in_place r) (later (markers r) r.start)
  ordered-place r h =
      let a = markers_of_all r.closed in
      let b = r.left in
      let c = markers_of_all r.opened in
      let p = later a r.start in
      let q = later b p in
      let behind = steps-on r.start a (b + c) h in
      let first = ordered-closings r.start r.closed (steps-front r.start a (b + c) h) in
      let second = ordered-data p b (steps-front p b c behind) in
      let third = ordered-openings q r.opened (steps-on p b c behind) in
      let end : later c q ≡ later (a + (b + c)) r.start = later-later c b p ∙ later-later (b + c) a r.start in
      subst (Ordered r.start (in_place r)) end
      (ordered-both r.start p (later c q) (closings r.start r.closed) (data_of p b ++ openings q r.opened) first (ordered-both p q (later c q) (data_of p b) (openings q r.opened) second third))
