-- Each event is in the list with children once.
use Rattle.markdown_children.proofs.Prelude.{◌≡◌, ℕ, zero, suc, ◌+◌, ◌-◌, ◌<◌, ◌≤◌, true, eqb, List, [], ◌∷◌, ◌++◌, length, take, drop, Some, None, refl, sym, ◌∙◌, ap, subst, arith, flat_map, slice_get, AllByRecursion, length-take-le, eqb-true, none-some, same_Some, Event, Identity, of_list, of_child, Tagged, is_same, place_in, Change, olds, pass, AreApart, AreApart-le, HasNo, place_in-append, place_in-olds_below, place_in-pass_below, Divided, tagged_child, part_changes, first_chunk, chain_changes, every-map, and_parts}
use Rattle.markdown_children.proofs.ChainOrder.Following.{by_test}
use Rattle.markdown_children.proofs.Parts.Placed.{left-of, place_in-child_olds, place_in-child_none, place_in-other_child}
use Rattle.markdown_children.proofs.ChainOrder.Spaced.{has_no-parts}

-- no event is there again behind itself
abbrev pub AreOnce : List Tagged → Type 0
AreOnce [] = Unit {0}
AreOnce (t ∷ ts) = (place_in t.identity ts ≡ None) × AreOnce ts

none-append : (b : Identity) (xs ys : List Tagged) → place_in b xs ≡ None → place_in b ys ≡ None → place_in b (xs ++ ys) ≡ None
none-append b xs ys h k = rw (place_in-append b xs ys, h, k) refl

once-append : (xs ys : List Tagged) → AreOnce xs → AllByRecursion (λ (t : Tagged). place_in t.identity ys ≡ None) xs → AreOnce ys → AreOnce (xs ++ ys)
once-append [] ys h k l = l
once-append (t ∷ xs) ys h k l = (none-append t.identity xs ys h.0 k.0, once-append xs ys h.1 k.1 l)

pub is_same-true : (a b : Identity) → is_same a b ≡ true → a ≡ b
is_same-true (of_list i) (of_list j) e = ap of_list (eqb-true i j e)
is_same-true (of_child c i) (of_child d j) e = let t = and_parts (eqb c d) (eqb i j) e in λ k. of_child (eqb-true c d t.0 k) (eqb-true i j t.1 k)
is_same-true a b e = cc

-- so an event that has a name is at the place of its name
pub once-place : (ts : List Tagged) (p : ℕ) (u : Tagged) → AreOnce ts → is_same u.identity u.identity ≡ true → slice_get ts p ≡ Some u → place_in u.identity ts ≡ Some p
once-place [] p u h s e = absurd (none-some u e)
once-place (t ∷ ts) zero u h s e =
    subst (λ (v : Tagged). place_in u.identity (v ∷ ts) ≡ Some 0) (sym (same_Some t u e)) (rw s refl)
once-place (t ∷ ts) (suc p) u h s e = by_test (is_same u.identity t.identity)
    (λ f.
    absurd (none-some p (sym h.0 ∙ ap (λ (b : Identity). place_in b ts) (sym (is_same-true u.identity t.identity f)) ∙ once-place ts p u h.1 s e)))
    (λ f. rw (f, once-place ts p u h.1 s e) refl)

-- ---- events that stay, and those that come

all-olds : (P : Identity → Type 0) (i : ℕ) (xs : List Event) → ((n : ℕ) → i ≤ n → n < i + length xs → P (of_list n)) → AllByRecursion (λ (t : Tagged). P t.identity) (olds i xs)
all-olds P i [] h = tt
all-olds P i (x ∷ xs) h = (h i (omega arith) (omega arith), all-olds P (i + 1) xs (λ n l m. h n (omega arith) (omega arith)))

once-olds : (i : ℕ) (xs : List Event) → AreOnce (olds i xs)
once-olds i [] = tt
once-olds i (x ∷ xs) = (place_in-olds_below i (i + 1) xs (omega arith), once-olds (i + 1) xs)

-- the name is of no event of the list
abbrev IsNoOld : Identity → Type 0
IsNoOld b = (i : ℕ) (xs : List Event) → place_in b (olds i xs) ≡ None

-- what comes is new, and comes once
abbrev pub ComeOnce : List Change → Type 0
ComeOnce [] = Unit {0}
ComeOnce (w ∷ ws) = AreOnce w.events × AllByRecursion (λ (t : Tagged). IsNoOld t.identity × HasNo t.identity ws) w.events × ComeOnce ws

none-pass : (b : Identity) (ws : List Change) (i : ℕ) (xs : List Event) → IsNoOld b → HasNo b ws → place_in b (pass ws i xs) ≡ None
none-pass b [] i xs h k = h i xs
none-pass b (w ∷ ws) i xs h k =
    let rest : List Tagged = pass ws (w.index + w.remove) (drop (w.index + w.remove - i) xs) in
    none-append b (olds i (take (w.index - i) xs)) (w.events ++ rest) (h i (take (w.index - i) xs))
    (none-append b w.events rest k.0 (none-pass b ws (w.index + w.remove) (drop (w.index + w.remove - i) xs) h k.1))

pub once-pass : (ws : List Change) (i : ℕ) (xs : List Event) → ((n : ℕ) → HasNo (of_list n) ws) → ComeOnce ws → AreApart i ws (i + length xs) → AreOnce (pass ws i xs)
once-pass [] i xs h k d = once-olds i xs
once-pass (w ∷ ws) i xs h k d =
    let a : i ≤ w.index = d.0 in
    let j : ℕ = w.index + w.remove in
    let b : j ≤ i + length xs = AreApart-le ws j (i + length xs) d.1 in
    let front : List Event = take (w.index - i) xs in
    let back : List Event = drop (j - i) xs in
    let long : length front ≡ w.index - i = length-take-le (w.index - i) xs (omega arith) in
    let d' : AreApart j ws (j + length back) = left-of w ws i xs d in
    let rest : List Tagged = pass ws j back in
    let below : (n : ℕ) → i ≤ n → n < i + length front → place_in (of_list n) (w.events ++ rest) ≡ None =
    λ n l u. none-append (of_list n) w.events rest (h n).0 (place_in-pass_below ws n j back (h n).1 d' (omega (arith, long))) in
    once-append (olds i front) (w.events ++ rest) (once-olds i front) (all-olds (λ b. place_in b (w.events ++ rest) ≡ None) i front below)
    (once-append w.events rest k.0
    (every-map (λ (t : Tagged). IsNoOld t.identity × HasNo t.identity ws) (λ (t : Tagged). place_in t.identity rest ≡ None) (λ t p. none-pass t.identity ws j back p.0 p.1) w.events k.1)
    (once-pass ws j back (λ n. (h n).1) k.2 d'))

-- ---- the parts of children

all-tagged : (P : Identity → Type 0) (c j : ℕ) (es : List Event) → ((n : ℕ) → j ≤ n → n < j + length es → P (of_child c n)) → AllByRecursion (λ (t : Tagged). P t.identity) (tagged_child c j es)
all-tagged P c j [] h = tt
all-tagged P c j (e ∷ es) h = (h j (omega arith) (omega arith), all-tagged P c (j + 1) es (λ n l m. h n (omega arith) (omega arith)))

once-tagged : (c j : ℕ) (es : List Event) → AreOnce (tagged_child c j es)
once-tagged c j [] = tt
once-tagged c j (e ∷ es) = (place_in-child_none c j (j + 1) es (λ (m : j + 1 ≤ j). omega arith), once-tagged c (j + 1) es)

has_no-later : (c n j : ℕ) (ks : List ℕ) (ps : List (List Event)) (ws : List Change) → n < j → HasNo (of_child c n) ws → HasNo (of_child c n) (part_changes c j ks ps ++ ws)
has_no-later c n j (k ∷ ks) (p ∷ ps) ws l h = (place_in-child_none c n j p (λ (m : j ≤ n). omega arith), has_no-later c n (j + length p) ks ps ws (omega arith) h)
has_no-later c n j ks ps ws l h = h

once-parts : (c j : ℕ) (ks : List ℕ) (ps : List (List Event)) (ws : List Change) → ((n : ℕ) → HasNo (of_child c n) ws) → ComeOnce ws → ComeOnce (part_changes c j ks ps ++ ws)
once-parts c j (d ∷ ks) (p ∷ ps) ws h k = (
  once-tagged c j p,
  all-tagged (λ b. IsNoOld b × HasNo b (part_changes c (j + length p) ks ps ++ ws)) c j p (λ n l m. (place_in-child_olds c n, has_no-later c n (j + length p) ks ps ws m (h n))),
  once-parts c (j + length p) ks ps ws h k,
)
once-parts c j ks ps ws h k = k

has_no-chains : (c n : ℕ) (ds : List Divided) → AllByRecursion (λ (d : Divided). first_chunk d.chunks ≡ c → ⊥) ds → HasNo (of_child c n) (flat_map chain_changes ds)
has_no-chains c n [] h = tt
has_no-chains c n (d ∷ ds) h =
    has_no-parts (of_child c n) (first_chunk d.chunks) 0 d.chunks d.parts (flat_map chain_changes ds)
    (λ j es. place_in-other_child c (first_chunk d.chunks) n j es (λ e. h.0 (sym e))) (has_no-chains c n ds h.1)

-- no two chains begin at one chunk
abbrev pub AreOthers : List Divided → Type 0
AreOthers [] = Unit {0}
AreOthers (d ∷ ds) = AllByRecursion (λ (other : Divided). first_chunk other.chunks ≡ first_chunk d.chunks → ⊥) ds × AreOthers ds

pub once-chains : (ds : List Divided) → AreOthers ds → ComeOnce (flat_map chain_changes ds)
once-chains [] h = tt
once-chains (d ∷ ds) h = once-parts (first_chunk d.chunks) 0 d.chunks d.parts (flat_map chain_changes ds) (λ n. has_no-chains (first_chunk d.chunks) n ds h.0) (once-chains ds h.1)
