-- Lists of events that are void-tight, or in order from a place to another.
use Rattle.markdown_base.proofs.Prelude.{◌≡◌, zero, suc, ◌+◌, true, false, List, [], ◌∷◌, ◌++◌, refl, subst, arith, nat_tests, AllByRecursion, Event, Enter, Exit, Name, Point, stands_before}
use Rattle.std.specs.Prelude.{AllPairs}
use Rattle.std.proofs.lemmas.List.Elements.{All-from_recursion}
use Rattle.std.proofs.lemmas.List.Kept.{AllPairs-cons}
use Rattle.std.proofs.lemmas.Option.{none-some, same_Some}
use Rattle.markdown_base.specs.Events.{is_void, IsVoidTight}
use Rattle.markdown_base.proofs.Common.{every-map}

-- ---- void-tight lists

-- the exit of this name comes first
abbrev pub IsFirstExit : Name → List Event → Type 0
IsFirstExit n [] = ⊥
IsFirstExit n (e ∷ es) = (e.kind ≡ Exit) × (e.name ≡ n)

-- the exit of each void enter comes next
abbrev pub AreTight : List Event → Type 0
AreTight [] = Unit {0}
AreTight (e ∷ es) = (e.kind ≡ Enter → is_void e.name ≡ true → IsFirstExit e.name es) × AreTight es

pub first-both : (n : Name) (xs ys : List Event) → IsFirstExit n xs → IsFirstExit n (xs ++ ys)
first-both n [] ys h = absurd h
first-both n (x ∷ xs) ys h = h

pub tight-both : (xs ys : List Event) → AreTight xs → AreTight ys → AreTight (xs ++ ys)
tight-both [] ys h k = k
tight-both (x ∷ xs) ys h k = ((λ enters void. first-both x.name xs ys (h.0 enters void)), tight-both xs ys h.1 k)

pub tight-at : (xs : List Event) → AreTight xs → IsVoidTight xs
tight-at [] h k e is enters void = absurd (none-some e is)
tight-at (x ∷ []) h zero e is enters void = let same = same_Some x e is in absurd (subst (λ (y : Event). y.kind ≡ Enter → is_void y.name ≡ true → ⊥) same h.0 enters void)
tight-at (x ∷ y ∷ xs) h zero e is enters void =
    let same = same_Some x e is in
    let first = subst (λ (z : Event). z.kind ≡ Enter → is_void z.name ≡ true → IsFirstExit z.name (y ∷ xs)) same h.0 enters void in
    (y, refl, first.0, first.1)
tight-at (x ∷ xs) h (suc k) e is enters void =
    let n : suc k + 1 ≡ suc (k + 1) = omega arith in
    rw n (tight-at xs h.1 k e is enters void)

-- ---- places in order

-- a place is not before a second, nor that before a third: nor is it before the third
pub upto-upto : (p q r : Point) → stands_before q p ≡ false → stands_before r q ≡ false → stands_before r p ≡ false
upto-upto p q r h k = grind (arith, nat_tests)

-- events between two places, in order
abbrev pub InOrder : Point → List Event → Point → Type 0
InOrder p [] q = stands_before q p ≡ false
InOrder p (e ∷ es) q = (stands_before e.point p ≡ false) × InOrder e.point es q

pub order-from : (o p : Point) (es : List Event) (q : Point) → stands_before p o ≡ false → InOrder p es q → InOrder o es q
order-from o p [] q h k = upto-upto o p q h k
order-from o p (e ∷ es) q h k = (upto-upto o p e.point h k.0, k.1)

pub order-both : (p : Point) (xs : List Event) (m : Point) (ys : List Event) (q : Point) → InOrder p xs m → InOrder m ys q → InOrder p (xs ++ ys) q
order-both p [] m ys q h k = order-from p m ys q h k
order-both p (x ∷ xs) m ys q h k = (h.0, order-both x.point xs m ys q h.1 k)

order-later : (p : Point) (es : List Event) (q : Point) → InOrder p es q → AllByRecursion (λ (f : Event). stands_before f.point p ≡ false) es
order-later p [] q h = tt
order-later p (e ∷ es) q h =
    (h.0, every-map (λ (f : Event). stands_before f.point e.point ≡ false) (λ (f : Event). stands_before f.point p ≡ false) (λ (f : Event) later. upto-upto p e.point f.point h.0 later) es (order-later e.point es q h.1))

pub order-pairs : (p : Point) (es : List Event) (q : Point) → InOrder p es q → AllPairs (λ (e f : Event). stands_before f.point e.point ≡ false) es
order-pairs p [] q h = λ i j d less within. absurd (omega (arith, within))
order-pairs p (e ∷ es) q h =
    AllPairs-cons (λ (e f : Event). stands_before f.point e.point ≡ false) e es (All-from_recursion (λ (f : Event). stands_before f.point e.point ≡ false) es (order-later e.point es q h.1)) (order-pairs e.point es q h.1)
