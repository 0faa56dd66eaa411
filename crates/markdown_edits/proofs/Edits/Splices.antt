-- The edited list by identities is the one by prefix sums.
use Rattle.markdown_edits.proofs.Prelude.{◌≡◌, ℕ, ◌+◌, ◌-◌, ◌<◌, cond, ltb, List, [], ◌∷◌, map, length, take, drop, Option, Some, None, refl, sym, ◌∙◌, ap, subst, arith, option_map, All, map-append, length-map, All-head, All-tail, All-take, All-drop, Event, Link, relinked, with_ends, EndsBelow, Edit, AreDisjoint, as_addition, as_change, edited, of_list, Tagged, place_in, woven, placed_in, shifts, place_by, place_from, relinked_by, spliced}
use Rattle.markdown_edits.proofs.Edits.Passes.{olds, pass, AreApart, woven-pass}
use Rattle.markdown_edits.proofs.Edits.FinalPlaces.{HasNo, old_place, old_place-pass}
use Rattle.markdown_edits.proofs.Edits.Shifts.{place_by-shifts}

-- disjoint edits are disjoint changes
pub AreApart-edits : (es : List Edit) (from n : ℕ) → AreDisjoint from es n → AreApart from (map as_change es) n
AreApart-edits [] from n d = d
AreApart-edits (e ∷ es) from n d = (d.0, AreApart-edits es (e.index + e.remove) n d.1)

pub place_in-additions : (n : ℕ) (xs : List Event) → place_in (of_list n) (map as_addition xs) ≡ None
place_in-additions n [] = refl
place_in-additions n (x ∷ xs) = rw (place_in-additions n xs) refl

-- no addition is an event of the list
pub HasNo-edits : (n : ℕ) (es : List Edit) → HasNo (of_list n) (map as_change es)
HasNo-edits n [] = tt
HasNo-edits n (e ∷ es) = (place_in-additions n e.additions, HasNo-edits n es)

old_place-edits : (es : List Edit) (removed added n : ℕ) → old_place (map as_change es) removed added n ≡ place_from es removed added n
old_place-edits [] removed added n = refl
old_place-edits (e ∷ es) removed added n =
    rw (length-map e.additions as_addition)
    (ap (λ (o : Option ℕ). cond (ltb n e.index) (Some (n - removed + added)) (cond (ltb n (e.index + e.remove)) None o)) (old_place-edits es (removed + e.remove) (added + length e.additions) n))

-- ends that are left as they are
pub relinked-same : (e : Event) → relinked Some e ≡ e
relinked-same e =
    let same : option_map (with_ends Some) e.link ≡ e.link = grind arith in
    ap (λ (l : Option Link). record e { link = l }) same

-- two ways to move ends that agree below n
pub relinked-agree : (f g : ℕ → Option ℕ) (n : ℕ) (e : Event) → ((k : ℕ) → k < n → f k ≡ g k) → EndsBelow n e → relinked f e ≡ relinked g e
relinked-agree f g n e h b =
    let same : option_map (with_ends f) e.link ≡ option_map (with_ends g) e.link = grind (arith, h) in
    ap (λ (l : Option Link). record e { link = l }) same

pub placed_in-additions : (ts : List Tagged) (xs : List Event) → placed_in ts (map as_addition xs) ≡ xs
placed_in-additions ts [] = refl
placed_in-additions ts (x ∷ xs) = rw (relinked-same x, placed_in-additions ts xs) refl

pub placed_in-olds : (ts : List Tagged) (place : ℕ → Option ℕ) (n i : ℕ) (xs : List Event) → ((k : ℕ) → k < n → place_in (of_list k) ts ≡ place k) → All (EndsBelow n) xs → placed_in ts (olds i xs) ≡ relinked_by place xs
placed_in-olds ts place n i [] h b = refl
placed_in-olds ts place n i (x ∷ xs) h b =
    rw (placed_in-olds ts place n (i + 1) xs h (All-tail (EndsBelow n) x xs b))
    (ap (λ (y : Event). y ∷ relinked_by place xs) (relinked-agree (λ k. place_in (of_list k) ts) place n x h (All-head (EndsBelow n) x xs b)))

pub placed_in-pass : (ts : List Tagged) (place : ℕ → Option ℕ) (n : ℕ) → ((k : ℕ) → k < n → place_in (of_list k) ts ≡ place k) → (es : List Edit) (i : ℕ) (xs : List Event) → All (EndsBelow n) xs → placed_in ts (pass (map as_change es) i xs) ≡ spliced place es i xs
placed_in-pass ts place n h [] i xs b = placed_in-olds ts place n i xs h b
placed_in-pass ts place n h (e ∷ es) i xs b =
    rw (
      map-append,
      map-append,
      placed_in-additions ts e.additions,
      (placed_in-olds ts place n i (take (e.index - i) xs) h (All-take (EndsBelow n) (e.index - i) xs b)),
      (placed_in-pass ts place n h es (e.index + e.remove) (drop (e.index + e.remove - i) xs) (All-drop (EndsBelow n) (e.index + e.remove - i) xs b)),
    ) refl

-- a place that nothing has shifted
pub same_shift : (o : Option ℕ) → option_map (λ p. 0 - 0 + 0 + p) o ≡ o
same_shift o = grind arith

-- the new places of the events of a list after edits, by the table of their shifts
abbrev pub place_after : List Edit → ℕ → Option ℕ
place_after es = place_by (shifts 0 0 es) 0 0

-- the list by identities is the list by prefix sums
pub edited-spliced : (es : List Edit) (xs : List Event) → AreDisjoint 0 es (length xs) → All (EndsBelow (length xs)) xs → edited es xs ≡ spliced (place_after es) es 0 xs
edited-spliced es xs d b =
    let z : length xs ≡ 0 + length xs = omega arith in
    let d' : AreApart 0 (map as_change es) (0 + length xs) = subst (λ m. AreApart 0 (map as_change es) m) z (AreApart-edits es 0 (length xs) d) in
    let all : List Tagged = woven (map as_change es) 0 xs in
    let place : (k : ℕ) → k < length xs → place_in (of_list k) all ≡ place_after es k = λ k l.
    ap (place_in (of_list k)) (woven-pass (map as_change es) 0 xs d') ∙ sym (same_shift (place_in (of_list k) (pass (map as_change es) 0 xs)))
    ∙ old_place-pass (map as_change es) k 0 0 0 xs (HasNo-edits k es) d' (omega arith) (omega arith) (omega arith)
    ∙ old_place-edits es 0 0 k ∙ sym (place_by-shifts es 0 0 k) in
    ap (placed_in all) (woven-pass (map as_change es) 0 xs d') ∙ placed_in-pass all (place_after es) (length xs) place es 0 xs b

relinked_by-none : (n : ℕ) (xs : List Event) → All (EndsBelow n) xs → relinked_by (place_by [] 0 0) xs ≡ xs
relinked_by-none n [] b = refl
relinked_by-none n (x ∷ xs) b =
    let stays : (k : ℕ) → k < n → place_by [] 0 0 k ≡ Some k = λ k l. grind arith in
    rw (relinked-agree (place_by [] 0 0) Some n x stays (All-head (EndsBelow n) x xs b), relinked-same x, relinked_by-none n xs (All-tail (EndsBelow n) x xs b)) refl

-- no edits change nothing
pub edited-none : (xs : List Event) → All (EndsBelow (length xs)) xs → edited [] xs ≡ xs
edited-none xs b = edited-spliced [] xs (omega arith) b ∙ relinked_by-none (length xs) xs b
