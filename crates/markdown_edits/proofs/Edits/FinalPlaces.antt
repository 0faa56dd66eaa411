-- The places of the events of a list after disjoint changes.
use Rattle.markdown_edits.proofs.Prelude.{◌≡◌, ℕ, suc, ◌+◌, ◌-◌, ◌<◌, ◌≤◌, cond, ltb, List, [], ◌∷◌, ◌++◌, length, take, drop, Option, Some, None, refl, ap, subst, arith, length-drop, AllByRecursion, option_map, length-take-le, Event, Identity, of_list, Tagged, place_in, Change, nat_tests}
use Rattle.markdown_edits.proofs.Edits.Passes.{olds, pass, AreApart, AreApart-le}

-- the place in the first of two lists, or that in the second behind n
abbrev pub or_after : ℕ → Option ℕ → Option ℕ → Option ℕ
or_after n None o = option_map (λ p. n + p) o
or_after n (Some p) o = Some p

pub place_in-append : (b : Identity) (xs ys : List Tagged) → place_in b (xs ++ ys) ≡ or_after (length xs) (place_in b xs) (place_in b ys)
place_in-append b [] ys = grind (arith, nat_tests)
place_in-append b (t ∷ xs) ys = rw (place_in-append b xs ys) (grind (arith, nat_tests))

pub length-olds : (i : ℕ) (xs : List Event) → length (olds i xs) ≡ length xs
length-olds i [] = refl
length-olds i (x ∷ xs) = ap suc (length-olds (i + 1) xs)

-- no event with the identity comes
abbrev pub HasNo : Identity → List Change → Type 0
HasNo b ws = AllByRecursion (λ w. place_in b w.events ≡ None) ws

-- the new place of the event at n, by prefix sums
abbrev pub old_place : List Change → ℕ → ℕ → ℕ → Option ℕ
old_place [] removed added n = Some (n - removed + added)
old_place (e ∷ es) removed added n =
    cond (ltb n e.index) (Some (n - removed + added)) (cond (ltb n (e.index + e.remove)) None (old_place es (removed + e.remove) (added + length e.events) n))

pub place_in-olds : (n i : ℕ) (xs : List Event) → i ≤ n → n < i + length xs → place_in (of_list n) (olds i xs) ≡ Some (n - i)
place_in-olds n i [] l m = absurd (omega arith)
place_in-olds n i (x ∷ xs) l m = let rest = place_in-olds n (i + 1) xs in grind (arith, nat_tests)

pub place_in-olds_below : (n i : ℕ) (xs : List Event) → n < i → place_in (of_list n) (olds i xs) ≡ None
place_in-olds_below n i [] h = refl
place_in-olds_below n i (x ∷ xs) h = let rest = place_in-olds_below n (i + 1) xs (omega arith) in grind (arith, nat_tests)

pub place_in-olds_above : (n i : ℕ) (xs : List Event) → i + length xs ≤ n → place_in (of_list n) (olds i xs) ≡ None
place_in-olds_above n i [] h = refl
place_in-olds_above n i (x ∷ xs) h = let rest = place_in-olds_above n (i + 1) xs (omega arith) in grind (arith, nat_tests)

-- one part of a pass: events that stay, those that come, and the rest
pub place_in-part : (n i : ℕ) (xs : List Event) (adds ts : List Tagged) → place_in (of_list n) adds ≡ None → place_in (of_list n) (olds i xs ++ (adds ++ ts)) ≡ or_after (length xs) (place_in (of_list n) (olds i xs)) (or_after (length adds) None (place_in (of_list n) ts))
place_in-part n i xs adds ts none =
    rw (place_in-append (of_list n) (olds i xs) (adds ++ ts), place_in-append (of_list n) adds ts, none, length-olds i xs) refl

pub place_in-pass_below : (es : List Change) (n i : ℕ) (xs : List Event) → HasNo (of_list n) es → AreApart i es (i + length xs) → n < i → place_in (of_list n) (pass es i xs) ≡ None
place_in-pass_below [] n i xs h d l = place_in-olds_below n i xs l
place_in-pass_below (e ∷ es) n i xs h d l =
    let a : i ≤ e.index = d.0 in
    let b : e.index + e.remove ≤ i + length xs = AreApart-le es (e.index + e.remove) (i + length xs) d.1 in
    let m : i + length xs ≡ e.index + e.remove + length (drop (e.index + e.remove - i) xs) = omega (arith, length-drop (e.index + e.remove - i) xs) in
    let d' : AreApart (e.index + e.remove) es (e.index + e.remove + length (drop (e.index + e.remove - i) xs)) = subst (λ k. AreApart (e.index + e.remove) es k) m d.1 in
    let more = place_in-pass_below es n (e.index + e.remove) (drop (e.index + e.remove - i) xs) h.1 d' (omega arith) in
    rw (place_in-part n i (take (e.index - i) xs) e.events (pass es (e.index + e.remove) (drop (e.index + e.remove - i) xs)) h.0, place_in-olds_below n i (take (e.index - i) xs) l, more) refl

-- prefix sums place an event of the list: `removed` events went and `added` events came before i
pub old_place-pass : (es : List Change) (n i removed added : ℕ) (xs : List Event) → HasNo (of_list n) es → AreApart i es (i + length xs) → removed ≤ i → i ≤ n → n < i + length xs
    → option_map (λ p. i - removed + added + p) (place_in (of_list n) (pass es i xs)) ≡ old_place es removed added n
old_place-pass [] n i removed added xs h d r l m =
    let z : i - removed + added + (n - i) ≡ n - removed + added = omega arith in
    rw (place_in-olds n i xs l m) (ap Some z)
old_place-pass (e ∷ es) n i removed added xs h d r l m =
    let a : i ≤ e.index = d.0 in
    let b : e.index + e.remove ≤ i + length xs = AreApart-le es (e.index + e.remove) (i + length xs) d.1 in
    let m' : i + length xs ≡ e.index + e.remove + length (drop (e.index + e.remove - i) xs) = omega (arith, length-drop (e.index + e.remove - i) xs) in
    let d' : AreApart (e.index + e.remove) es (e.index + e.remove + length (drop (e.index + e.remove - i) xs)) = subst (λ k. AreApart (e.index + e.remove) es k) m' d.1 in
    let front : length (take (e.index - i) xs) ≡ e.index - i = length-take-le (e.index - i) xs (omega arith) in
    let parts = place_in-part n i (take (e.index - i) xs) e.events (pass es (e.index + e.remove) (drop (e.index + e.remove - i) xs)) h.0 in
    let inside = place_in-olds n i (take (e.index - i) xs) l in
    let past = place_in-olds_above n i (take (e.index - i) xs) in
    let below = place_in-pass_below es n (e.index + e.remove) (drop (e.index + e.remove - i) xs) h.1 d' in
    let more = old_place-pass es n (e.index + e.remove) (removed + e.remove) (added + length e.events) (drop (e.index + e.remove - i) xs) h.1 d' (omega arith) in
    grind (arith, nat_tests)
