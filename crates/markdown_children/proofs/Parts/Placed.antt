-- The places of children's events after disjoint changes. Edits that bring each part with its link ends there give the list with children.
use Rattle.markdown_children.proofs.Prelude.{◌≡◌, ℕ, suc, ◌+◌, ◌-◌, ◌*◌, ◌<◌, ◌≤◌, List, [], ◌∷◌, ◌++◌, length, take, drop, Option, Some, None, refl, ◌∙◌, ap, subst, arith, length-drop, option_map, ne_eqb, length-take-le, Event, Identity, of_child, Tagged, place_in, Change, olds, pass, AreApart, AreApart-le, or_after, place_in-append, length-olds, child_place, total, tagged_child, part_changes, cond, map, sym, flat_map, All, AllByRecursion, map-append, All-head, All-tail, relinked, EndsBelow, as_addition, as_change, edited, of_list, of_addition, as_listed, is_same, woven, placed, placed_in, placed_end, changed, woven-pass, zero-add, relinked-same, relinked-agree, same_shift, Divided, part_edits, chain_edits, all_edits, first_chunk, chain_changes, every-both, every-all, nat_tests}
use Rattle.markdown_children.proofs.ChainOrder.Spaced.{HasParts}

-- what a change leaves of the events
pub left-of : (w : Change) (ws : List Change) (i : ℕ) (xs : List Event) → AreApart i (w ∷ ws) (i + length xs) → AreApart (w.index + w.remove) ws (w.index + w.remove + length (drop (w.index + w.remove - i) xs))
left-of w ws i xs d =
    let n : i + length xs ≡ w.index + w.remove + length (drop (w.index + w.remove - i) xs) = omega (arith, d.0, AreApart-le ws (w.index + w.remove) (i + length xs) d.1, length-drop (w.index + w.remove - i) xs) in
    subst (AreApart (w.index + w.remove) ws) n d.1

-- no old event is one of a child
pub place_in-child_olds : (c n i : ℕ) (xs : List Event) → place_in (of_child c n) (olds i xs) ≡ None
place_in-child_olds c n i [] = refl
place_in-child_olds c n i (x ∷ xs) = rw (place_in-child_olds c n (i + 1) xs) refl

abbrev pub or_else : Option ℕ → Option ℕ → Option ℕ
or_else None o = o
or_else (Some p) o = Some p

-- the place of a child's event by prefix sums over the changes
abbrev pub change_place : Identity → List Change → ℕ → ℕ → Option ℕ
change_place b [] removed added = None
change_place b (w ∷ ws) removed added = or_else (option_map (λ p. w.index - removed + added + p) (place_in b w.events)) (change_place b ws (removed + w.remove) (added + length w.events))

pub change_place-pass : (ws : List Change) (c n i removed added : ℕ) (xs : List Event) → AreApart i ws (i + length xs) → removed ≤ i
    → option_map (λ p. i - removed + added + p) (place_in (of_child c n) (pass ws i xs)) ≡ change_place (of_child c n) ws removed added
change_place-pass [] c n i removed added xs d r = rw (place_in-child_olds c n i xs) refl
change_place-pass (w ∷ ws) c n i removed added xs d r =
    let a : i ≤ w.index = d.0 in
    let b : w.index + w.remove ≤ i + length xs = AreApart-le ws (w.index + w.remove) (i + length xs) d.1 in
    let first : List Event = take (w.index - i) xs in
    let front : length first ≡ w.index - i = length-take-le (w.index - i) xs (omega arith) in
    let rest : List Tagged = pass ws (w.index + w.remove) (drop (w.index + w.remove - i) xs) in
    let more = change_place-pass ws c n (w.index + w.remove) (removed + w.remove) (added + length w.events) (drop (w.index + w.remove - i) xs) (left-of w ws i xs d) (omega arith) in
    rw (place_in-append (of_child c n) (olds i first) (w.events ++ rest), place_in-child_olds c n i first, length-olds i first, front, place_in-append (of_child c n) w.events rest, ← more)
    (shifted i (w.index - i) w.index (length w.events) (w.index + w.remove) removed added (removed + w.remove)
    (place_in (of_child c n) w.events) (place_in (of_child c n) rest) (omega arith) (omega arith))
  where
    shifted : (i k at g j removed added removed' : ℕ) (o q : Option ℕ) → i - removed + added + k ≡ at - removed + added → i - removed + added + (k + g) ≡ j - removed' + (added + g)
        → option_map (λ p. i - removed + added + p) (or_after k None (or_after g o q)) ≡ or_else (option_map (λ p. at - removed + added + p) o) (option_map (λ p. j - removed' + (added + g) + p) q)
    shifted i k at g j removed added removed' (Some p) q e f = let z : i - removed + added + (k + p) ≡ at - removed + added + p = omega arith in ap Some z
    shifted i k at g j removed added removed' None None e f = refl
    shifted i k at g j removed added removed' None (Some p) e f = let z : i - removed + added + (k + (g + p)) ≡ j - removed' + (added + g) + p = omega arith in ap Some z

-- ---- the events of one child

pub length-tagged_child : (c j : ℕ) (es : List Event) → length (tagged_child c j es) ≡ length es
length-tagged_child c j [] = refl
length-tagged_child c j (e ∷ es) = ap suc (length-tagged_child c (j + 1) es)

pub place_in-other_child : (c d n j : ℕ) (es : List Event) → (c ≡ d → ⊥) → place_in (of_child c n) (tagged_child d j es) ≡ None
place_in-other_child c d n j [] ne = refl
place_in-other_child c d n j (e ∷ es) ne = rw (ne_eqb c d ne, place_in-other_child c d n (j + 1) es ne) refl

-- a child's events from the j-th on have no other number
pub place_in-child_none : (c n j : ℕ) (es : List Event) → (j ≤ n → j + length es ≤ n) → place_in (of_child c n) (tagged_child c j es) ≡ None
place_in-child_none c n j [] l = refl
place_in-child_none c n j (e ∷ es) l =
    let more = place_in-child_none c n (j + 1) es (λ (m : j + 1 ≤ n). let k = l (omega arith) in omega arith) in
    grind (arith, nat_tests)

pub place_in-child_in : (c n j : ℕ) (es : List Event) → j ≤ n → n < j + length es → place_in (of_child c n) (tagged_child c j es) ≡ Some (n - j)
place_in-child_in c n j [] l m = absurd (omega arith)
place_in-child_in c n j (e ∷ es) l m =
    let more : j + 1 ≤ n → place_in (of_child c n) (tagged_child c (j + 1) es) ≡ Some (n - (j + 1)) = λ k. place_in-child_in c n (j + 1) es k (omega arith) in
    grind (arith, nat_tests)

-- the changes of one chain place its child's events
pub change_place-chain : (c j : ℕ) (ks : List ℕ) (ps : List (List Event)) (ws : List Change) (n removed added : ℕ) → length ks ≡ length ps → n < total ps
    → change_place (of_child c (j + n)) (part_changes c j ks ps ++ ws) removed added ≡ child_place ks ps removed added n
change_place-chain c j [] [] ws n removed added e l = absurd (omega arith)
change_place-chain c j (k ∷ ks) (p ∷ ps) ws n removed added e l =
    let here : n < length p → place_in (of_child c (j + n)) (tagged_child c j p) ≡ Some (j + n - j) = λ q. place_in-child_in c (j + n) j p (omega arith) (omega arith) in
    let there : length p ≤ n → place_in (of_child c (j + n)) (tagged_child c j p) ≡ None = λ q. place_in-child_none c (j + n) j p (λ (m : j ≤ j + n). omega arith) in
    let rest : List Change = part_changes c (j + length p) ks ps ++ ws in
    let more : length p ≤ n → change_place (of_child c (j + n)) rest (removed + 2) (added + length p) ≡ child_place ks ps (removed + 2) (added + length p) (n - length p) =
    λ q. (let z : j + n ≡ j + length p + (n - length p) = omega arith in ap (λ m. change_place (of_child c m) rest (removed + 2) (added + length p)) z)
    ∙ change_place-chain c (j + length p) ks ps ws (n - length p) (removed + 2) (added + length p) (omega arith) (omega arith) in
    rw (length-tagged_child c j p) (grind (arith, nat_tests))
change_place-chain c j ks ps ws n removed added e l = absurd (omega arith)

-- the changes of another chain only shift
pub change_place-behind : (c d n j : ℕ) (ks : List ℕ) (ps : List (List Event)) (ws : List Change) (removed added : ℕ) → (c ≡ d → ⊥) → length ks ≡ length ps
    → change_place (of_child c n) (part_changes d j ks ps ++ ws) removed added ≡ change_place (of_child c n) ws (removed + 2 * length ks) (added + total ps)
change_place-behind c d n j [] [] ws removed added ne e =
    let z : removed ≡ removed + 2 * 0 = omega arith in
    let y : added ≡ added + 0 = omega arith in
    (λ i. change_place (of_child c n) ws (z i) (y i))
change_place-behind c d n j (k ∷ ks) (p ∷ ps) ws removed added ne e =
    let z : removed + 2 + 2 * length ks ≡ removed + 2 * length (k ∷ ks) = omega arith in
    let y : added + length p + total ps ≡ added + (length p + total ps) = omega arith in
    rw (place_in-other_child c d n j p ne, length-tagged_child d j p)
    (change_place-behind c d n (j + length p) ks ps ws (removed + 2) (added + length p) ne (omega arith) ∙ (λ i. change_place (of_child c n) ws (z i) (y i)))
change_place-behind c d n j ks ps ws removed added ne e = absurd (omega arith)

-- ---- additions whose ends are final in place of a child's events

-- an event that is not old, with its link ends read off as places in ts
abbrev pub finalized_as : List Tagged → Identity → Event → Tagged
finalized_as ts (of_list i) e = as_listed i e
finalized_as ts (of_child c j) e = as_addition (relinked (λ n. place_in (of_child c n) ts) e)
finalized_as ts of_addition e = as_addition e

abbrev pub finalized : List Tagged → Tagged → Tagged
finalized ts u = finalized_as ts u.identity u.event

place_in-finalized : (ts us : List Tagged) (n : ℕ) → place_in (of_list n) (map (finalized ts) us) ≡ place_in (of_list n) us
place_in-finalized ts [] n = refl
place_in-finalized ts (u ∷ us) n =
    ap (λ b. cond b (Some 0) (option_map suc (place_in (of_list n) (map (finalized ts) us)))) (same u.identity u.event)
    ∙ ap (λ o. cond (is_same (of_list n) u.identity) (Some 0) (option_map suc o)) (place_in-finalized ts us n)
  where
    same : (b : Identity) (e : Event) → is_same (of_list n) (finalized_as ts b e).identity ≡ is_same (of_list n) b
    same (of_list i) e = refl
    same (of_child c j) e = refl
    same of_addition e = refl

placed_in-finalized : (ts us : List Tagged) → placed_in (map (finalized ts) ts) (map (finalized ts) us) ≡ placed_in ts us
placed_in-finalized ts [] = refl
placed_in-finalized ts (u ∷ us) = λ i. same u.identity u.event i ∷ placed_in-finalized ts us i
  where
    same : (b : Identity) (e : Event) → relinked (placed_end (map (finalized ts) ts) (finalized_as ts b e).identity) (finalized_as ts b e).event ≡ relinked (placed_end ts b) e
    same (of_list j) e = λ i. relinked (λ n. place_in-finalized ts ts n i) e
    same (of_child c j) e = relinked-same (relinked (λ n. place_in (of_child c n) ts) e)
    same of_addition e = refl

abbrev pub finalized_change : List Tagged → Change → Change
finalized_change ts w = record { index = w.index; remove = w.remove; events = map (finalized ts) w.events }

olds-finalized : (ts : List Tagged) (i : ℕ) (xs : List Event) → map (finalized ts) (olds i xs) ≡ olds i xs
olds-finalized ts i [] = refl
olds-finalized ts i (x ∷ xs) = ap (λ us. as_listed i x ∷ us) (olds-finalized ts (i + 1) xs)

pass-finalized : (ts : List Tagged) (ws : List Change) (i : ℕ) (xs : List Event) → map (finalized ts) (pass ws i xs) ≡ pass (map (finalized_change ts) ws) i xs
pass-finalized ts [] i xs = olds-finalized ts i xs
pass-finalized ts (w ∷ ws) i xs = simp (map-append, olds-finalized ts, pass-finalized ts ws (w.index + w.remove) (drop (w.index + w.remove - i) xs))

disjoint-finalized : (ts : List Tagged) (ws : List Change) (from n : ℕ) → AreApart from ws n → AreApart from (map (finalized_change ts) ws) n
disjoint-finalized ts [] from n d = d
disjoint-finalized ts (w ∷ ws) from n d = (d.0, disjoint-finalized ts ws (w.index + w.remove) n d.1)

-- ---- the edits of chains

-- link ends of each part's events lie inside the child
abbrev pub HasEndsInside : Divided → Type 0
HasEndsInside d = AllByRecursion (All (EndsBelow (total d.parts))) d.parts

-- a part for each chunk, link ends inside the child, and no two chains begin at one chunk
abbrev pub AreChains : List Divided → Type 0
AreChains [] = Unit {0}
AreChains (d ∷ ds) = (HasParts d × HasEndsInside d) × AllByRecursion (λ (other : Divided). first_chunk other.chunks ≡ first_chunk d.chunks → ⊥) ds × AreChains ds

finalized_part : (ts : List Tagged) (f : ℕ → Option ℕ) (c j n : ℕ) (p : List Event) → ((k : ℕ) → k < n → place_in (of_child c k) ts ≡ f k) → All (EndsBelow n) p → map (finalized ts) (tagged_child c j p) ≡ map as_addition (map (relinked f) p)
finalized_part ts f c j n [] h b = refl
finalized_part ts f c j n (e ∷ p) h b = λ i.
    as_addition (relinked-agree (λ k. place_in (of_child c k) ts) f n e h (All-head (EndsBelow n) e p b) i) ∷ finalized_part ts f c (j + 1) n p h (All-tail (EndsBelow n) e p b) i

finalized_parts : (ts : List Tagged) (f : ℕ → Option ℕ) (c j n : ℕ) (ks : List ℕ) (ps : List (List Event)) → ((k : ℕ) → k < n → place_in (of_child c k) ts ≡ f k) → AllByRecursion (All (EndsBelow n)) ps
    → map (finalized_change ts) (part_changes c j ks ps) ≡ map as_change (part_edits f ks ps)
finalized_parts ts f c j n (k ∷ ks) (p ∷ ps) h b = λ i.
    (let w : Change = record { index = k; remove = 2; events = finalized_part ts f c j n p h b.0 i } in w) ∷ finalized_parts ts f c (j + length p) n ks ps h b.1 i
finalized_parts ts f c j n ks ps h b = refl

-- the events of a chain's child are where changes put them, behind others that remove and add as many events
abbrev ArePlaced : List Tagged → List Change → (removed added : ℕ) → Divided → Type 0
ArePlaced ts ws removed added d = (n : ℕ) → place_in (of_child (first_chunk d.chunks) n) ts ≡ change_place (of_child (first_chunk d.chunks) n) ws removed added

edits_of_rest : (ts : List Tagged) (ds : List Divided) (removed added : ℕ) → AreChains ds → AllByRecursion (ArePlaced ts (flat_map chain_changes ds) removed added) ds
    → map (finalized_change ts) (flat_map chain_changes ds) ≡ map as_change (all_edits removed added ds)
edits_of_rest ts [] removed added w h = refl
edits_of_rest ts (ch ∷ ds) removed added w h =
    let c : ℕ = first_chunk ch.chunks in
    let rest : List Change = flat_map chain_changes ds in
    let place : (k : ℕ) → k < total ch.parts → place_in (of_child c k) ts ≡ child_place ch.chunks ch.parts removed added k =
    λ k l. h.0 k ∙ (λ j. change_place (of_child c (sym (zero-add k) j)) (chain_changes ch ++ rest) removed added) ∙ change_place-chain c 0 ch.chunks ch.parts rest k removed added w.0.0 l in
    let still = every-both (λ (d : Divided). first_chunk d.chunks ≡ c → ⊥) (ArePlaced ts (chain_changes ch ++ rest) removed added)
    (ArePlaced ts rest (removed + 2 * length ch.chunks) (added + total ch.parts))
    (λ d f g n. g n ∙ change_place-behind (first_chunk d.chunks) c n 0 ch.chunks ch.parts rest removed added f w.0.0) ds w.1 h.1 in
    map-append (finalized_change ts) (chain_changes ch) rest
    ∙ ap (λ v. v ++ map (finalized_change ts) rest) (finalized_parts ts (child_place ch.chunks ch.parts removed added) c 0 (total ch.parts) ch.chunks ch.parts place w.0.1)
    ∙ ap (λ v. map as_change (chain_edits removed added ch) ++ v) (edits_of_rest ts ds (removed + 2 * length ch.chunks) (added + total ch.parts) w.2 still)
    ∙ sym (map-append as_change (chain_edits removed added ch) (all_edits (removed + 2 * length ch.chunks) (added + total ch.parts) ds))

-- the edits of all chains, each with its ends placed by the sums before it, give the list with all children
pub edited-children : (ds : List Divided) (xs : List Event) → AreApart 0 (flat_map chain_changes ds) (length xs) → AreChains ds → edited (all_edits 0 0 ds) xs ≡ changed (flat_map chain_changes ds) xs
edited-children ds xs d w =
    let ws : List Change = flat_map chain_changes ds in
    let ts : List Tagged = woven ws 0 xs in
    let d' : AreApart 0 ws (0 + length xs) = rw zero-add d in
    let place : (e : Divided) → ArePlaced ts ws 0 0 e =
    λ e n. let b = of_child (first_chunk e.chunks) n in
    sym (same_shift (place_in b ts)) ∙ ap (λ us. option_map (λ p. 0 - 0 + 0 + p) (place_in b us)) (woven-pass ws 0 xs d') ∙ change_place-pass ws (first_chunk e.chunks) n 0 0 0 xs d' (omega arith) in
    ap (λ v. changed v xs) (sym (edits_of_rest ts ds 0 0 w (every-all (ArePlaced ts ws 0 0) place ds)))
    ∙ ap placed (woven-pass (map (finalized_change ts) ws) 0 xs (disjoint-finalized ts ws 0 _ d') ∙ sym (pass-finalized ts ws 0 xs) ∙ ap (map (finalized ts)) (sym (woven-pass ws 0 xs d')))
    ∙ placed_in-finalized ts ts
