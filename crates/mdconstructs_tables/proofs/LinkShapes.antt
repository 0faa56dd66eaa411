-- The links of events stay in shape if events are added, and if two are linked.
use Rattle.mdconstructs_tables.proofs.Prelude.{◌≡◌, ℕ, zero, suc, ◌+◌, ◌<◌, List, [], ◌∷◌, ◌++◌, Option, Some, None, length, refl, sym, ap, ◌∙◌, subst, arith, inl, inr, length-append, All, IfSome, slice_get, option_map, option_and_then, All-cons, All-head, All-tail, All-push, All-weaker, Event, Link, EachEnd, EndsBelow, next_set, previous_set, with_next, with_previous, updated_at, linked_to, next_of, previous_of, updated-length, next_end, previous_end, AreInShape, cases_eq, IfSome_then, none-some}

-- the end of a link of the event at an index
abbrev end_of : (Link → Option ℕ) → List Event → ℕ → Option ℕ
end_of end xs i = option_and_then (λ (e : Event). option_and_then end e.link) (slice_get xs i)

-- Events that are added
end-more : (end : Link → Option ℕ) (xs : List Event) (e : Event) (i : ℕ) → option_and_then end e.link ≡ None → end_of end (xs ++ e ∷ []) i ≡ end_of end xs i
end-more end [] e zero h = h
end-more end (x ∷ xs) e (suc i) h = end-more end xs e i h
end-more end xs e i h = refl

pub next-more : (xs : List Event) (e : Event) (i : ℕ) → next_end e ≡ None → next_of (xs ++ e ∷ []) i ≡ next_of xs i
next-more = end-more (λ l. l.next)

pub no-ends-below : (n : ℕ) (o : Option Link) → option_and_then (λ (l : Link). l.next) o ≡ None → option_and_then (λ (l : Link). l.previous) o ≡ None → IfSome o (EachEnd (λ k. k < n))
no-ends-below n None h k = tt
no-ends-below n (Some l) h k = (rw k tt, rw h tt)

pub more-shape : (xs : List Event) (e : Event) → next_end e ≡ None → previous_end e ≡ None → AreInShape xs → AreInShape (xs ++ e ∷ [])
more-shape xs e ends begins h =
    let longer : length (xs ++ e ∷ []) ≡ length xs + 1 = length-append xs (e ∷ []) in
    record {
      inside = All-push (EndsBelow (length (xs ++ e ∷ []))) xs e
          (All-weaker (EndsBelow (length xs)) (EndsBelow (length (xs ++ e ∷ [])))
          (λ x h. IfSome_then x.link h (λ l k. (IfSome_then l.previous k.0 (λ i r. omega (arith, r, longer)), IfSome_then l.next k.1 (λ i r. omega (arith, r, longer))))) xs h.inside)
          (no-ends-below (length (xs ++ e ∷ [])) e.link ends begins);
      on = λ i j is. end-more (λ l. l.previous) xs e j begins ∙ h.on i j (sym (next-more xs e i ends) ∙ is);
      back = λ i j is. next-more xs e i ends ∙ h.back i j (sym (end-more (λ l. l.previous) xs e j begins) ∙ is);
    }

-- Events that are linked
get-at : (p : ℕ) (f : Event → Event) (xs : List Event) → slice_get (updated_at p f xs) p ≡ option_map f (slice_get xs p)
get-at p f [] = refl
get-at zero f (x ∷ xs) = refl
get-at (suc p) f (x ∷ xs) = get-at p f xs

pub get-other : (p i : ℕ) (f : Event → Event) (xs : List Event) → (i ≡ p → ⊥) → slice_get (updated_at p f xs) i ≡ slice_get xs i
get-other p i f [] apart = refl
get-other zero zero f (x ∷ xs) apart = absurd (apart refl)
get-other (suc p) (suc i) f (x ∷ xs) apart = get-other p i f xs (λ e. apart (ap suc e))
get-other p i f xs apart = refl

pub next-other : (p i : ℕ) (f : Event → Event) (xs : List Event) → (i ≡ p → ⊥) → next_of (updated_at p f xs) i ≡ next_of xs i
next-other p i f xs apart = ap (λ (o : Option Event). option_and_then (λ (e : Event). option_and_then (λ (l : Link). l.next) e.link) o) (get-other p i f xs apart)

-- setting one end of links keeps the other
end-kept : (end : Link → Option ℕ) (set : Link → Link) → ((l : Link) → end (set l) ≡ end l) → (o : Option Link) → option_and_then end (option_map set o) ≡ option_and_then end o
end-kept end set same None = refl
end-kept end set same (Some l) = same l

end-same : (end : Link → Option ℕ) (f : Event → Event) → ((e : Event) → option_and_then end (f e).link ≡ option_and_then end e.link)
    → (p i : ℕ) (xs : List Event) → end_of end (updated_at p f xs) i ≡ end_of end xs i
end-same end f same p i [] = refl
end-same end f same zero zero (x ∷ xs) = same x
end-same end f same (suc p) (suc i) (x ∷ xs) = end-same end f same p i xs
end-same end f same p i xs = refl

pub next-kept : (p n i : ℕ) (xs : List Event) → next_of (updated_at p (with_previous n) xs) i ≡ next_of xs i
next-kept p n i xs = end-same (λ l. l.next) (with_previous n) (λ e. end-kept (λ l. l.next) (previous_set n) (λ l. refl) e.link) p i xs

below-set : (m : ℕ) (set : Link → Link) → ((l : Link) → EachEnd (λ k. k < m) l → EachEnd (λ k. k < m) (set l))
    → (o : Option Link) → IfSome o (EachEnd (λ k. k < m)) → IfSome (option_map set o) (EachEnd (λ k. k < m))
below-set m set keeps None h = tt
below-set m set keeps (Some l) h = keeps l h

inside-set : (p m : ℕ) (f : Event → Event) (xs : List Event) → ((x : Event) → EndsBelow m x → EndsBelow m (f x)) → All (EndsBelow m) xs → All (EndsBelow m) (updated_at p f xs)
inside-set p m f [] keeps h = h
inside-set zero m f (x ∷ xs) keeps h = All-cons (EndsBelow m) (f x) xs (keeps x (All-head (EndsBelow m) x xs h)) (All-tail (EndsBelow m) x xs h)
inside-set (suc p) m f (x ∷ xs) keeps h =
    All-cons (EndsBelow m) x (updated_at p f xs) (All-head (EndsBelow m) x xs h) (inside-set p m f xs keeps (All-tail (EndsBelow m) x xs h))

-- one chain links on and the other back: it is so too with one link more in both
turned : (to from to' from' : ℕ → Option ℕ) (p n : ℕ) → ((i : ℕ) → (i ≡ p → ⊥) → to' i ≡ to i) → ((j : ℕ) → (j ≡ n → ⊥) → from' j ≡ from j) → to' p ≡ Some n → from' n ≡ Some p → from n ≡ None
    → ((i j : ℕ) → to i ≡ Some j → from j ≡ Some i) → (i j : ℕ) → to' i ≡ Some j → from' j ≡ Some i
turned to from to' from' p n on back there here none old i j is = elim (cases_eq i p) [
  | inl e ↦
      let at : to' i ≡ Some n = ap to' e ∙ there in
      let j_is : j ≡ n = cc in
      ap from' j_is ∙ here ∙ ap Some (sym e)
  | inr apart ↦
      let was = old i j (sym (on i apart) ∙ is) in
      back j (λ e. none-some i (sym none ∙ ap from (sym e) ∙ was)) ∙ was
]

module _ (xs : List Event) (p n : ℕ) (e f : Event) (l m : Link) (at_p : slice_get xs p ≡ Some e) (link_p : e.link ≡ Some l) (at_n : slice_get xs n ≡ Some f) (link_n : f.link ≡ Some m)
    (order : p < n) (within : n < length xs) (last : next_of xs p ≡ None) (first : previous_of xs n ≡ None) (h : AreInShape xs) where
  abbrev one : List Event
  one = updated_at p (with_next n) xs

  next-linked : (i : ℕ) → (i ≡ p → ⊥) → next_of (linked_to p n xs) i ≡ next_of xs i
  next-linked i apart = next-kept n p i one ∙ next-other p i (with_next n) xs apart

  previous-linked : (j : ℕ) → (j ≡ n → ⊥) → previous_of (linked_to p n xs) j ≡ previous_of xs j
  previous-linked j apart =
      ap (λ (o : Option Event). option_and_then previous_end o) (get-other n j (with_previous p) one apart)
      ∙ end-same (λ l. l.previous) (with_next n) (λ e. end-kept (λ l. l.previous) (next_set n) (λ l. refl) e.link) p j xs

  next-there : next_of (linked_to p n xs) p ≡ Some n
  next-there = next-kept n p p one ∙ rw (get-at p (with_next n) xs, at_p, link_p)

  previous-there : previous_of (linked_to p n xs) n ≡ Some p
  previous-there = rw (get-at n (with_previous p) one, get-other p n (with_next n) xs (λ same. absurd (omega (arith, order, same))), at_n, link_n)

  pub linked-shape : AreInShape (linked_to p n xs)
  linked-shape =
      let both = linked_to p n xs in
      let size : length both ≡ length xs = updated-length n (with_previous p) one ∙ updated-length p (with_next n) xs in
      let first_in : All (EndsBelow (length xs)) one = inside-set p (length xs) (with_next n) xs (λ x b. below-set (length xs) (next_set n) (λ l b. (b.0, within)) x.link b) h.inside in
      let both_in : All (EndsBelow (length xs)) both =
      inside-set n (length xs) (with_previous p) one (λ x b. below-set (length xs) (previous_set p) (λ l b. (omega (arith, order, within), b.1)) x.link b) first_in in
      record {
        inside = subst (λ k. All (EndsBelow k) both) (sym size) both_in;
        on = turned (next_of xs) (previous_of xs) (next_of both) (previous_of both) p n next-linked previous-linked next-there previous-there first h.on;
        back = λ i j. turned (previous_of xs) (next_of xs) (previous_of both) (next_of both) n p previous-linked next-linked previous-there next-there last (λ j i. h.back i j) j i;
      }
