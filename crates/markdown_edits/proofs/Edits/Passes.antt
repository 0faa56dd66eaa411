-- The list after disjoint changes, as one pass over changes and events gives it.
use Rattle.markdown_edits.proofs.Prelude.{◌≡◌, ℕ, zero, suc, ◌+◌, ◌-◌, ◌<◌, ◌≤◌, false, List, [], ◌∷◌, ◌++◌, length, take, drop, refl, sym, ◌∙◌, ap, subst, arith, append_assoc, append-nil, length-drop, add-zero, drop-drop, eq-eqb, Event, Change, events_at, is_removed, Tagged, as_listed, woven, nat_tests}
pub use Rattle.markdown_edits.specs.Woven.{AreApart}

-- events that stay, from index i on
abbrev pub olds : ℕ → List Event → List Tagged
olds i [] = []
olds i (x ∷ xs) = as_listed i x ∷ olds (i + 1) xs

-- the events before each change, the events that come, then the events after its end
abbrev pub pass : List Change → ℕ → List Event → List Tagged
pass [] i xs = olds i xs
pass (e ∷ es) i xs =
    olds i (take (e.index - i) xs) ++ (e.events ++ pass es (e.index + e.remove) (drop (e.index + e.remove - i) xs))

-- nothing comes below the first change
pub events_at-none : (es : List Change) (from n i : ℕ) → AreApart from es n → i < from → events_at es i ≡ []
events_at-none [] from n i d l = refl
events_at-none (e ∷ es) from n i d l = grind (arith, nat_tests, d.0, events_at-none es (e.index + e.remove) n i d.1)

-- nothing is removed below the first change
pub is_removed-none : (es : List Change) (from n i : ℕ) → AreApart from es n → i < from → is_removed es i ≡ false
is_removed-none [] from n i d l = refl
is_removed-none (e ∷ es) from n i d l = grind (arith, nat_tests, d.0, is_removed-none es (e.index + e.remove) n i d.1)

-- a change does not matter behind its end
pub woven-past : (e : Change) (es : List Change) (i : ℕ) (xs : List Event) → e.index < i → e.index + e.remove ≤ i → woven (e ∷ es) i xs ≡ woven es i xs
woven-past e es i [] l m = grind (arith, nat_tests)
woven-past e es i (x ∷ xs) l m = let rest = woven-past e es (i + 1) xs (omega arith) (omega arith) in grind (arith, nat_tests)

-- inside a change, behind its index: its other events go
pub woven-inside : (e : Change) (es : List Change) (n r i : ℕ) (xs : List Event) → AreApart (e.index + e.remove) es n → e.index < i → i + r ≡ e.index + e.remove → r ≤ length xs → woven (e ∷ es) i xs ≡ woven es (i + r) (drop r xs)
woven-inside e es n zero i xs d l m f = rw add-zero (woven-past e es i xs l (omega arith))
woven-inside e es n (suc r) i [] d l m f = absurd (omega arith)
woven-inside e es n (suc r) i (x ∷ xs) d l m f =
    grind (arith, nat_tests, events_at-none es (e.index + e.remove) n i d (omega arith), woven-inside e es n r (i + 1) xs d (omega arith) (omega arith) (omega arith))

-- at a change's index: the events that come, then the events after its end
pub woven-at : (e : Change) (es : List Change) (n r : ℕ) (xs : List Event) → AreApart (e.index + e.remove) es n → e.remove ≡ r → r ≤ length xs → woven (e ∷ es) e.index xs ≡ e.events ++ woven es (e.index + r) (drop r xs)
woven-at e es n zero [] d m f =
    rw (eq-eqb e.index e.index refl, add-zero) refl
woven-at e es n zero (x ∷ xs) d m f = grind (arith, nat_tests, add-zero, append_assoc, woven-past e es (e.index + 1) xs (omega arith) (omega arith))
woven-at e es n (suc r) [] d m f = absurd (omega arith)
woven-at e es n (suc r) (x ∷ xs) d m f =
    grind (arith, nat_tests, append-nil, events_at-none es (e.index + e.remove) n e.index d (omega arith), woven-inside e es n r (e.index + 1) xs d (omega arith) (omega arith) (omega arith))

-- below a change's index the events stay
pub woven-below : (e : Change) (es : List Change) (n k i : ℕ) (xs : List Event) → AreApart i (e ∷ es) n → i + k ≡ e.index → k ≤ length xs → woven (e ∷ es) i xs ≡ olds i (take k xs) ++ woven (e ∷ es) e.index (drop k xs)
woven-below e es n zero i xs d m f = rw (sym m, add-zero) refl
woven-below e es n (suc k) i [] d m f = absurd (omega arith)
woven-below e es n (suc k) i (x ∷ xs) d m f =
    let after : AreApart (i + 1) (e ∷ es) n = ((omega arith), d.1) in
    rw (events_at-none (e ∷ es) (i + 1) n i after (omega arith), is_removed-none (e ∷ es) (i + 1) n i after (omega arith), woven-below e es n k (i + 1) xs after (omega arith) (omega arith)) refl

pub woven-nil : (i : ℕ) (xs : List Event) → woven [] i xs ≡ olds i xs
woven-nil i [] = refl
woven-nil i (x ∷ xs) = rw (woven-nil (i + 1) xs) refl

-- the indices of disjoint changes lie within the list
pub AreApart-le : (es : List Change) (from n : ℕ) → AreApart from es n → from ≤ n
AreApart-le [] from n d = d
AreApart-le (e ∷ es) from n d = let a : from ≤ e.index = d.0 in omega (arith, AreApart-le es (e.index + e.remove) n d.1)

pub woven-pass : (es : List Change) (i : ℕ) (xs : List Event) → AreApart i es (i + length xs) → woven es i xs ≡ pass es i xs
woven-pass [] i xs d = woven-nil i xs
woven-pass (e ∷ es) i xs d =
    let a : i ≤ e.index = d.0 in
    let b : e.index + e.remove ≤ i + length xs = AreApart-le es (e.index + e.remove) (i + length xs) d.1 in
    let k : e.index - i + e.remove ≡ e.index + e.remove - i = omega arith in
    let rest = drop-drop e.remove (e.index - i) xs ∙ ap (λ n. drop n xs) k in
    let n : i + length xs ≡ e.index + e.remove + length (drop (e.index + e.remove - i) xs) = omega (arith, length-drop (e.index + e.remove - i) xs) in
    let d' : AreApart (e.index + e.remove) es (e.index + e.remove + length (drop (e.index + e.remove - i) xs)) = subst (λ m. AreApart (e.index + e.remove) es m) n d.1 in
    let below = woven-below e es (i + length xs) (e.index - i) i xs d (omega arith) (omega arith) in
    let at = woven-at e es (i + length xs) e.remove (drop (e.index - i) xs) d.1 refl (omega (arith, length-drop (e.index - i) xs)) in
    let more = woven-pass es (e.index + e.remove) (drop (e.index + e.remove - i) xs) d' in
    rw (below, at, rest, more) refl
