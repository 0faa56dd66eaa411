-- The events of a list that stay through changes keep their order, and links between them.
use Rattle.markdown_edits.proofs.Prelude.{cases_order, ◌≡◌, ℕ, suc, ◌+◌, ◌-◌, ◌<◌, ◌≤◌, ◌⊎◌, ◌↔◌, Bool, false, not, cond, eqb, List, [], ◌∷◌, ◌++◌, length, Option, Some, None, refl, sym, ◌∙◌, ap, inl, inr, ⊎_elim, arith, slice_get, option_map, option_and_then, is_some, none-some, slice_get-map, recursion_from_All, Event, Link, relinked, next_of, previous_of, Identity, of_list, Tagged, as_listed, place_in, placed_end, Change, events_at, is_removed, woven, AreNew, place_after, StaysUnlessRemoved, StaysAsItWas, KeepsOrder, KeepsLinks, nat_tests, common_steps}
use Rattle.markdown_edits.proofs.Edits.FinalPlaces.{HasNo, place_in-append}

place_in-events_at : (b : Identity) (ws : List Change) (i : ℕ) → HasNo b ws → place_in b (events_at ws i) ≡ None
place_in-events_at b [] i h = refl
place_in-events_at b (w ∷ ws) i h = grind (arith, nat_tests, h.0, place_in-append b w.events (events_at ws i), place_in-events_at b ws i h.1)

-- the place in the list from the next index on, counted after the events at this one
abbrev behind : ℕ → Bool → Bool → Option ℕ → Option ℕ
behind n gone here o = option_map (λ p. n + p) (cond gone o (cond here (Some 0) (option_map suc o)))

place_in-woven_cons : (ws : List Change) (n i : ℕ) (x : Event) (xs : List Event) → HasNo (of_list n) ws
    → place_in (of_list n) (woven ws i (x ∷ xs)) ≡ behind (length (events_at ws i)) (is_removed ws i) (eqb n i) (place_in (of_list n) (woven ws (i + 1) xs))
place_in-woven_cons ws n i x xs h =
    rw (place_in-append (of_list n) (events_at ws i) (cond (is_removed ws i) [] (as_listed i x ∷ []) ++ woven ws (i + 1) xs), place_in-events_at (of_list n) ws i h)
    (grind arith)

-- a place is the place of the event at this index, or a later one
record Here (ws : List Change) (n i p : ℕ) : Type 0 where
  same : n ≡ i
  stays : is_removed ws i ≡ false
  first : p ≡ length (events_at ws i)

record There (ws : List Change) (n i : ℕ) (xs : List Event) (p : ℕ) : Type 0 where
  place : ℕ
  found : place_in (of_list n) (woven ws (i + 1) xs) ≡ Some place
  sum : p ≡ length (events_at ws i) + cond (is_removed ws i) 0 1 + place

woven_cases : (ws : List Change) (n i p : ℕ) (x : Event) (xs : List Event) → HasNo (of_list n) ws → place_in (of_list n) (woven ws i (x ∷ xs)) ≡ Some p
    → Here ws n i p ⊎ There ws n i xs p
woven_cases ws n i p x xs h e = grind (arith, nat_tests, place_in-woven_cons ws n i x xs h)

-- no event has a place if none of its kind is left
le_of_place : (ws : List Change) (n i p : ℕ) (xs : List Event) → HasNo (of_list n) ws → place_in (of_list n) (woven ws i xs) ≡ Some p → i ≤ n
le_of_place ws n i p [] h e = absurd (none-some p (sym (place_in-events_at (of_list n) ws i h) ∙ e))
le_of_place ws n i p (x ∷ xs) h e = elim (woven_cases ws n i p x xs h e) [ inl k ↦ omega (arith, k.same) | inr k ↦ omega (arith, le_of_place ws n (i + 1) k.place xs h k.found) ]

-- an event stays unless it is removed
stays : (ws : List Change) (n i : ℕ) (xs : List Event) → HasNo (of_list n) ws → i ≤ n → n < i + length xs → is_some (place_in (of_list n) (woven ws i xs)) ≡ not (is_removed ws n)
stays ws n i [] h l m = absurd (omega arith)
stays ws n i (x ∷ xs) h l m =
    let least = λ (p : ℕ). le_of_place ws n (i + 1) p xs h in
    grind (arith, nat_tests, place_in-woven_cons ws n i x xs h, stays ws n (i + 1) xs h)

-- events that stay keep their order
order : (ws : List Change) (n m i p q : ℕ) (xs : List Event) → HasNo (of_list n) ws → HasNo (of_list m) ws
    → place_in (of_list n) (woven ws i xs) ≡ Some p → place_in (of_list m) (woven ws i xs) ≡ Some q → n < m → p < q
order ws n m i p q [] h k e f l = absurd (none-some p (sym (place_in-events_at (of_list n) ws i h) ∙ e))
order ws n m i p q (x ∷ xs) h k e f l =
    let second = woven_cases ws m i q x xs k f in
    elim (woven_cases ws n i p x xs h e) [
      | inl a ↦ elim second [ inl b ↦ absurd (omega (arith, a.same, b.same)) | inr b ↦ let s = rw a.stays at b.sum in omega (arith, a.first, s) ]
      | inr a ↦ elim second [ inl b ↦ absurd (omega (arith, b.same, le_of_place ws n (i + 1) a.place xs h a.found)) | inr b ↦ omega (arith, a.sum, b.sum, order ws n m (i + 1) a.place b.place xs h k a.found b.found l) ]
    ]

pub slice_get-behind : {X : Type 0} (xs ys : List X) (k : ℕ) → slice_get (xs ++ ys) (length xs + k) ≡ slice_get ys k
slice_get-behind [] ys k = grind (arith, common_steps)
slice_get-behind (x ∷ xs) ys k = let rest = slice_get-behind xs ys k in grind (arith, common_steps)

-- the event at an event's place
same_event : (ws : List Change) (n i p : ℕ) (xs : List Event) → HasNo (of_list n) ws → place_in (of_list n) (woven ws i xs) ≡ Some p
    → slice_get (woven ws i xs) p ≡ option_map (as_listed n) (slice_get xs (n - i))
same_event ws n i p [] h e = absurd (none-some p (sym (place_in-events_at (of_list n) ws i h) ∙ e))
same_event ws n i p (x ∷ xs) h e = ⊎_elim
    (λ (a : Here ws n i p).
    let z : p ≡ length (events_at ws i) + 0 = omega (arith, a.first) in
    let y : n - i ≡ 0 = omega (arith, a.same) in
    ap (slice_get (woven ws i (x ∷ xs))) z
    ∙ slice_get-behind (events_at ws i) (cond (is_removed ws i) [] (as_listed i x ∷ []) ++ woven ws (i + 1) xs) 0
    ∙ rw (a.stays, y, a.same) refl)
    (λ (a : There ws n i xs p).
    let z : p ≡ length (events_at ws i) + (cond (is_removed ws i) 0 1 + a.place) = omega (arith, a.sum) in
    let y : n - i ≡ suc (n - (i + 1)) = omega (arith, (le_of_place ws n (i + 1) a.place xs h a.found)) in
    ap (slice_get (woven ws i (x ∷ xs))) z
    ∙ slice_get-behind (events_at ws i) (cond (is_removed ws i) [] (as_listed i x ∷ []) ++ woven ws (i + 1) xs) (cond (is_removed ws i) 0 1 + a.place)
    ∙ grind arith
    ∙ same_event ws n (i + 1) a.place xs h a.found
    ∙ ap (λ k. option_map (as_listed n) (slice_get (x ∷ xs) k)) (sym y))
    (woven_cases ws n i p x xs h e)

-- the laws

pub has_no : (ws : List Change) → AreNew ws → (n : ℕ) → HasNo (of_list n) ws
has_no ws new n = recursion_from_All (λ w. place_in (of_list n) w.events ≡ None) ws (new n)

pub stays_unless_removed : (ws : List Change) (xs : List Event) → AreNew ws → StaysUnlessRemoved ws xs
stays_unless_removed ws xs new n l = stays ws n 0 xs (has_no ws new n) (omega arith) (omega arith)

pub keeps_order : (ws : List Change) (xs : List Event) → AreNew ws → KeepsOrder ws xs
keeps_order ws xs new n m p q e f l = order ws n m 0 p q xs (has_no ws new n) (has_no ws new m) e f l

pub stays_as_it_was : (ws : List Change) (xs : List Event) → AreNew ws → StaysAsItWas ws xs
stays_as_it_was ws xs new n p e =
    let z : n - 0 ≡ n = omega arith in
    let ts : List Tagged = woven ws 0 xs in
    slice_get-map (λ (u : Tagged). relinked (placed_end ts u.identity) u.event) ts p
    ∙ ap (option_map (λ (u : Tagged). relinked (placed_end ts u.identity) u.event)) (same_event ws n 0 p xs (has_no ws new n) e ∙ ap (λ k. option_map (as_listed n) (slice_get xs k)) z)
    ∙ grind arith

pub next_moved : (f : ℕ → Option ℕ) (o : Option Event) → option_and_then (λ (e : Event). option_and_then (λ (l : Link). l.next) e.link) (option_map (relinked f) o)
    ≡ option_and_then f (option_and_then (λ (e : Event). option_and_then (λ (l : Link). l.next) e.link) o)
next_moved f o = grind arith

pub previous_moved : (f : ℕ → Option ℕ) (o : Option Event) → option_and_then (λ (e : Event). option_and_then (λ (l : Link). l.previous) e.link) (option_map (relinked f) o)
    ≡ option_and_then f (option_and_then (λ (e : Event). option_and_then (λ (l : Link). l.previous) e.link) o)
previous_moved f o = grind arith

-- no two events have the same new place
moved_end : (ws : List Change) (xs : List Event) → AreNew ws → (m q : ℕ) → place_after ws xs m ≡ Some q → (o : Option ℕ) → (o ≡ Some m) ↔ (option_and_then (place_after ws xs) o ≡ Some q)
moved_end ws xs new m q f None = (λ e. cc, λ e. cc)
moved_end ws xs new m q f (Some k) = (
  λ e. cc,
  λ e. elim (cases_order k m) [
    | inl same ↦ ap Some same
    | inr other ↦ absurd (elim other [ inl l ↦ omega (arith, keeps_order ws xs new k m q q e f l) | inr l ↦ omega (arith, keeps_order ws xs new m k q q f e l) ])
  ],
)

pub keeps_links : (ws : List Change) (xs : List Event) → AreNew ws → KeepsLinks ws xs
keeps_links ws xs new n m p q e f =
    let next = ap (option_and_then (λ (e : Event). option_and_then (λ (l : Link). l.next) e.link)) (stays_as_it_was ws xs new n p e) ∙ next_moved (place_after ws xs) (slice_get xs n) in
    let previous = ap (option_and_then (λ (e : Event). option_and_then (λ (l : Link). l.previous) e.link)) (stays_as_it_was ws xs new m q f) ∙ previous_moved (place_after ws xs) (slice_get xs m) in
    let on = moved_end ws xs new m q f (next_of xs n) in
    let back = moved_end ws xs new n p e (previous_of xs m) in
    ((λ a. (next ∙ on.0 a.0, previous ∙ back.0 a.1)), (λ a. (on.1 (sym next ∙ a.0), back.1 (sym previous ∙ a.1))))
