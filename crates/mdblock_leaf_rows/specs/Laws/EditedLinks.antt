-- Links between events stay in shape through edits that add only events without links.
use Rattle.std.proofs.Common.{◌≡◌, ◌⊎◌, ℕ, zero, suc, ◌+◌, ◌<◌, ◌≤◌, List, [], ◌∷◌, ◌++◌, true, false, cond, Option, Some, None, inl, inr, length, refl, sym, ap, ◌∙◌, arith}
use Rattle.std.specs.Prelude.{◌==◌, All, IfSome, slice_get, option_map, option_and_then}
use Rattle.std.specs.List.{AllByRecursion}
use Rattle.std.proofs.lemmas.Bool.Decides.{nat_tests}
use Rattle.std.proofs.lemmas.List.Elements.{All-from_recursion}
use Rattle.std.proofs.lemmas.Option.{slice_get-map, none-some, same_Some}
use Rattle.markdown_base.specs.declared.event.Event.{Event}
use Rattle.markdown_base.specs.declared.event.Link.{Link}
use Rattle.markdown_base.specs.Events.{EachEnd, EndsBelow, relinked}
use Rattle.markdown_edits.specs.Links.{next_of, previous_of}
use Rattle.markdown_edits.specs.Survivors.{AreNew, place_after}
use Rattle.markdown_edits.specs.Woven.{of_list, Change, Tagged, as_listed, changed, events_at, is_removed, place_in, placed_end, woven}
use Rattle.markdown_edits.proofs.Edits.FinalPlaces.{HasNo, place_in-append}
use Rattle.markdown_edits.proofs.Edits.Survivors.{stays_as_it_was, next_moved, previous_moved, has_no}
use Rattle.markdown_base.proofs.Common.{every-append, every-get}

-- an element of two lists together is in the first, or in the second behind it
in-either : {A : Type 0} (xs ys : List A) (p : ℕ) (x : A) → slice_get (xs ++ ys) p ≡ Some x → (slice_get xs p ≡ Some x) ⊎ ((q : ℕ) × (p ≡ length xs + q) × (slice_get ys q ≡ Some x))
in-either [] ys p x h = inr (p, omega arith, h)
in-either (y ∷ xs) ys zero x h = inl h
in-either (y ∷ xs) ys (suc p) x h = elim (in-either xs ys p x h) [
  | inl k ↦ inl k
  | inr k ↦ inr (k.0, omega (arith, k.1), k.2)
]

-- the events that come have no links
abbrev pub AddNoLinks : List Change → Type 0
AddNoLinks ws = AllByRecursion (λ (w : Change). AllByRecursion (λ (t : Tagged). t.event.link ≡ None) w.events) ws

unlinked-at : (ws : List Change) (i : ℕ) → AddNoLinks ws → AllByRecursion (λ (t : Tagged). t.event.link ≡ None) (events_at ws i)
unlinked-at [] i h = tt
unlinked-at (w ∷ ws) i h = elim (w.index == i) as (λ b. AllByRecursion (λ (t : Tagged). t.event.link ≡ None) (cond b w.events [] ++ events_at ws i)) [
  | true ↦ every-append (λ (t : Tagged). t.event.link ≡ None) w.events (events_at ws i) h.0 (unlinked-at ws i h.1)
  | false ↦ unlinked-at ws i h.1
]

none-at : (n : ℕ) (ws : List Change) (i : ℕ) → HasNo (of_list n) ws → place_in (of_list n) (events_at ws i) ≡ None
none-at n [] i h = refl
none-at n (w ∷ ws) i h = elim (w.index == i) as (λ b. place_in (of_list n) (cond b w.events [] ++ events_at ws i) ≡ None) [
  | true ↦ place_in-append (of_list n) w.events (events_at ws i) ∙ rw (h.0, none-at n ws i h.1) refl
  | false ↦ none-at n ws i h.1
]

-- An event of the woven list has no link, or it is an event of the list, at its place
abbrev IsFound : List Change → ℕ → List Event → ℕ → Tagged → Type 0
IsFound ws i xs p t = (t.event.link ≡ None) ⊎ ((n : ℕ) × (i ≤ n) × (t.identity ≡ of_list n) × (place_in (of_list n) (woven ws i xs) ≡ Some p))

module _ (ws : List Change) (new : (n : ℕ) → HasNo (of_list n) ws) (unlinked : AddNoLinks ws) where
  behind-added : (n i : ℕ) (ts : List Tagged) (q : ℕ) → place_in (of_list n) ts ≡ Some q → place_in (of_list n) (events_at ws i ++ ts) ≡ Some (length (events_at ws i) + q)
  behind-added n i ts q h = place_in-append (of_list n) (events_at ws i) ts ∙ rw (none-at n ws i (new n), h) refl

  found : (i : ℕ) (xs : List Event) (p : ℕ) (t : Tagged) → slice_get (woven ws i xs) p ≡ Some t → IsFound ws i xs p t
  found i [] p t h = inl (every-get (λ (t : Tagged). t.event.link ≡ None) (events_at ws i) p t (unlinked-at ws i unlinked) h)
  found i (x ∷ xs) p t h =
      let rest = woven ws (i + 1) xs in
      let added = length (events_at ws i) in
      elim (in-either (events_at ws i) (cond (is_removed ws i) [] (as_listed i x ∷ []) ++ rest) p t h) [
        | inl k ↦ inl (every-get (λ (t : Tagged). t.event.link ≡ None) (events_at ws i) p t (unlinked-at ws i unlinked) k)
        | inr k ↦ elim (is_removed ws i) as (λ r. slice_get (cond r [] (as_listed i x ∷ []) ++ rest) k.0 ≡ Some t → (t.event.link ≡ None) ⊎ ((n : ℕ) × (i ≤ n) × (t.identity ≡ of_list n) × (place_in (of_list n) (events_at ws i ++ (cond r [] (as_listed i x ∷ []) ++ rest)) ≡ Some p))) [
          | true ↦ λ there. elim (found (i + 1) xs k.0 t there) [
            | inl none ↦ inl none
            | inr q ↦ inr (q.0, omega (arith, q.1), q.2, behind-added q.0 i rest k.0 q.3 ∙ ap Some (sym k.1))
          ]
          | false ↦ λ there. elim k.0 as (λ j. k.0 ≡ j → slice_get (as_listed i x ∷ rest) j ≡ Some t → (t.event.link ≡ None) ⊎ ((n : ℕ) × (i ≤ n) × (t.identity ≡ of_list n) × (place_in (of_list n) (events_at ws i ++ (as_listed i x ∷ rest)) ≡ Some p))) [
            | zero ↦ λ e there.
                let same = same_Some (as_listed i x) t there in
                let first : place_in (of_list i) (as_listed i x ∷ rest) ≡ Some 0 = grind (arith, nat_tests) in
                inr (i, omega arith, ap (λ (u : Tagged). u.identity) (sym same), behind-added i i (as_listed i x ∷ rest) 0 first ∙ ap Some (omega (arith, k.1, e)))
            | suc j ↦ λ e there. elim (found (i + 1) xs j t there) [
              | inl none ↦ inl none
              | inr q ↦
                  let later = q.1 in
                  let place = q.3 in
                  let next : place_in (of_list q.0) (as_listed i x ∷ rest) ≡ Some (suc j) = grind (arith, nat_tests, later, place) in
                  inr (q.0, omega (arith, later), q.2, behind-added q.0 i (as_listed i x ∷ rest) (suc j) next ∙ ap Some (omega (arith, k.1, e)))
            ]
          ] refl there
        ] k.2
      ]

-- what leads somewhere by two steps leads there by the first, to a place from which the second leads there
pub by-way : (f : ℕ → Option ℕ) (o : Option ℕ) (j : ℕ) → option_and_then f o ≡ Some j → (m : ℕ) × (o ≡ Some m) × (f m ≡ Some j)
by-way f None j h = absurd (none-some j h)
by-way f (Some m) j h = (m, refl, h)

module _ (ws : List Change) (xs : List Event) (new : AreNew ws) (unlinked : AddNoLinks ws) where
  abbrev moved : (u : Tagged) → Event
  moved u = relinked (placed_end (woven ws 0 xs) u.identity) u.event

  none-linked : (end : Link → Option ℕ) (f : ℕ → Option ℕ) (e : Event) → e.link ≡ None → option_and_then end (relinked f e).link ≡ None
  none-linked end f e h = rw h refl

  -- an event of the new list that is linked is one of the old list, at its place
  pub linked-found : (end : Link → Option ℕ) (i j : ℕ) → option_and_then (λ (e : Event). option_and_then end e.link) (slice_get (changed ws xs) i) ≡ Some j → (n : ℕ) × (place_after ws xs n ≡ Some i)
  linked-found end i j h =
      let got = slice_get-map moved (woven ws 0 xs) i in
      elim (slice_get (woven ws 0 xs) i) as (λ o. slice_get (woven ws 0 xs) i ≡ o → (n : ℕ) × (place_after ws xs n ≡ Some i)) [
        | None ↦ λ e. absurd (none-some j (ap (λ o. option_and_then (λ (e : Event). option_and_then end e.link) o) (sym (got ∙ ap (option_map moved) e)) ∙ h))
        | Some t ↦ λ e. elim (found ws (has_no ws new) unlinked 0 xs i t e) [
          | inl none ↦ absurd (none-some j (sym (none-linked end (placed_end (woven ws 0 xs) t.identity) t.event none) ∙ ap (λ o. option_and_then (λ (e : Event). option_and_then end e.link) o) (sym (got ∙ ap (option_map moved) e)) ∙ h))
          | inr q ↦ (q.0, q.3)
        ]
      ] refl

  pub next-is : (n i : ℕ) → place_after ws xs n ≡ Some i → next_of (changed ws xs) i ≡ option_and_then (place_after ws xs) (next_of xs n)
  next-is n i e = ap (option_and_then (λ (e : Event). option_and_then (λ (l : Link). l.next) e.link)) (stays_as_it_was ws xs new n i e) ∙ next_moved (place_after ws xs) (slice_get xs n)

  previous-is : (n i : ℕ) → place_after ws xs n ≡ Some i → previous_of (changed ws xs) i ≡ option_and_then (place_after ws xs) (previous_of xs n)
  previous-is n i e = ap (option_and_then (λ (e : Event). option_and_then (λ (l : Link). l.previous) e.link)) (stays_as_it_was ws xs new n i e) ∙ previous_moved (place_after ws xs) (slice_get xs n)

  -- links are mutual
  pub still-on : ((i j : ℕ) → next_of xs i ≡ Some j → previous_of xs j ≡ Some i) → (i j : ℕ) → next_of (changed ws xs) i ≡ Some j → previous_of (changed ws xs) j ≡ Some i
  still-on on i j h =
      let (n, here) = linked-found (λ l. l.next) i j h in
      let (m, next, there) = by-way (place_after ws xs) (next_of xs n) j (sym (next-is n i here) ∙ h) in
      previous-is m j there ∙ ap (option_and_then (place_after ws xs)) (on n m next) ∙ here

  pub still-back : ((i j : ℕ) → previous_of xs j ≡ Some i → next_of xs i ≡ Some j) → (i j : ℕ) → previous_of (changed ws xs) j ≡ Some i → next_of (changed ws xs) i ≡ Some j
  still-back back i j h =
      let (m, here) = linked-found (λ l. l.previous) j i h in
      let (n, previous, there) = by-way (place_after ws xs) (previous_of xs m) i (sym (previous-is m j here) ∙ h) in
      next-is n i there ∙ ap (option_and_then (place_after ws xs)) (back n m previous) ∙ here

-- what is linked from somewhere, or to somewhere, is in the list
end-within : (end : Link → Option ℕ) (xs : List Event) (i j : ℕ) → option_and_then (λ (e : Event). option_and_then end e.link) (slice_get xs i) ≡ Some j → i < length xs
end-within end [] i j h = absurd (none-some j h)
end-within end (x ∷ xs) zero j h = omega arith
end-within end (x ∷ xs) (suc i) j h = let less = end-within end xs i j h in omega (arith, less)

end-inside : (n : ℕ) (o : Option ℕ) → ((j : ℕ) → o ≡ Some j → j < n) → IfSome o (λ j. j < n)
end-inside n None h = tt
end-inside n (Some j) h = h j refl

link-inside : (n : ℕ) (o : Option Link) → ((j : ℕ) → option_and_then (λ (l : Link). l.next) o ≡ Some j → j < n) → ((j : ℕ) → option_and_then (λ (l : Link). l.previous) o ≡ Some j → j < n) → IfSome o (EachEnd (λ j. j < n))
link-inside n None h k = tt
link-inside n (Some l) h k = (end-inside n l.previous k, end-inside n l.next h)

each-inside : (n : ℕ) (xs : List Event)
    → ((k j : ℕ) → option_and_then (λ (e : Event). option_and_then (λ (l : Link). l.next) e.link) (slice_get xs k) ≡ Some j → j < n)
    → ((k j : ℕ) → option_and_then (λ (e : Event). option_and_then (λ (l : Link). l.previous) e.link) (slice_get xs k) ≡ Some j → j < n)
    → AllByRecursion (EndsBelow n) xs
each-inside n [] h k = tt
each-inside n (x ∷ xs) h k = (link-inside n x.link (h 0) (k 0), each-inside n xs (λ m. h (suc m)) (λ m. k (suc m)))

-- so links of a list in shape are inside it
pub mutual-inside : (xs : List Event) → ((i j : ℕ) → next_of xs i ≡ Some j → previous_of xs j ≡ Some i) → ((i j : ℕ) → previous_of xs j ≡ Some i → next_of xs i ≡ Some j) → All (EndsBelow (length xs)) xs
mutual-inside xs on back =
    All-from_recursion (EndsBelow (length xs)) xs
    (each-inside (length xs) xs (λ i j h. end-within (λ l. l.previous) xs j i (on i j h)) (λ j i h. end-within (λ l. l.next) xs i j (back i j h)))
