-- Lists of events in which those of each character reference stand side by side, and how such a list goes on, event by event.
use Rattle.mddocument_laws.proofs.Prelude.{◌≡◌, ◌⊎◌, ℕ, zero, suc, ◌<◌, ◌≤◌, List, [], ◌∷◌, ◌++◌, Bool, true, false, cond, inl, inr, None, refl, sym, ap, subst, arith, and_parts, eqb-true, false≢true, AllByRecursion, Event, Enter, Exit, CharacterReference, Data, is_enter, is_void, same_name, depth_after, span_at, spans_in, enters, ◌==◌}
use Rattle.markdown_base.specs.declared.event.Kind.{Kind}

-- an event has another name
abbrev pub IsOther : Event → Type 0
IsOther e = same_name e.name CharacterReference ≡ false

-- Where an event comes: outside of references, or behind an event of one, with those of it that are to come
pub data State : Type 0 where
  outside : State
  inside : (last : Event) (todo : List Event) → State

abbrev pub behind : Event → List Event → State
behind e [] = outside
behind e (y ∷ ys) = inside e (y ∷ ys)

-- an event of a reference is in no chain, and is no data
pub record IsOwn (e : Event) : Type 0 where
  pub unlinked : e.link ≡ None
  pub no_data : same_name e.name Data ≡ false

-- two neighbours: the first enters a void span, or they stand at one place
abbrev pub Seam : Event → Event → Type 0
Seam e f = ((e.kind ≡ Enter) × (is_void e.name ≡ true)) ⊎ (e.point ≡ f.point)

-- so many spans are open, and the last event ends all of them
abbrev pub Closes : ℕ → List Event → Type 0
Closes d [] = ⊥
Closes d (y ∷ []) = depth_after y.kind d ≡ 0
Closes d (y ∷ z ∷ ys) = (0 < depth_after y.kind d) × Closes (depth_after y.kind d) (z ∷ ys)

-- what is said of an event that enters a reference, with those of it that are to come
module _ (Is : Event → List Event → Type 0) where
  pub record Begins (e : Event) (ys : List Event) : Type 0 where
    pub is : Is e ys
    pub own : IsOwn e
    pub enter : enters CharacterReference e ≡ true
    pub closes : Closes 1 ys

  pub record GoesOn (last e : Event) : Type 0 where
    pub own : IsOwn e
    pub no_enter : enters CharacterReference e ≡ false
    pub seam : Seam last e

  -- one more event
  abbrev pub Step : State → Event → State → Type 0
  Step outside e u = (IsOther e × (u ≡ outside)) ⊎ ((ys : List Event) × Begins e ys × (u ≡ behind e ys))
  Step (inside last []) e u = ⊥
  Step (inside last (y ∷ ys)) e u = (e ≡ y) × GoesOn last e × (u ≡ behind e ys)

  -- and more
  abbrev pub Goes : State → List Event → State → Type 0
  Goes s [] u = s ≡ u
  Goes s (e ∷ es) u = (t : State) × Step s e t × Goes t es u

  -- Each reference of a list is whole
  abbrev pub AreWhole : List Event → Type 0
  AreWhole es = Goes outside es outside

  -- ---- lists together

  pub goes-both : (s t u : State) (xs ys : List Event) → Goes s xs t → Goes t ys u → Goes s (xs ++ ys) u
  goes-both s t u [] ys h k = subst (λ r. Goes r ys u) (sym h) k
  goes-both s t u (x ∷ xs) ys h k = (h.0, h.1, goes-both h.0 t u xs ys h.2 k)

  pub goes-split : (s u : State) (xs ys : List Event) → Goes s (xs ++ ys) u → (t : State) × Goes s xs t × Goes t ys u
  goes-split s u [] ys h = (s, refl, h)
  goes-split s u (x ∷ xs) ys h = let r = goes-split h.0 u xs ys h.2 in (r.0, (h.0, h.1, r.1), r.2)

  pub whole-both : (xs ys : List Event) → AreWhole xs → AreWhole ys → AreWhole (xs ++ ys)
  whole-both xs ys h k = goes-both outside outside outside xs ys h k

  pub others-whole : (es : List Event) → AllByRecursion IsOther es → AreWhole es
  others-whole [] h = refl
  others-whole (e ∷ es) h = (outside, inl (h.0, refl), others-whole es h.1)

  -- ---- outermost spans

  -- with so many spans open, those of a reference that is not at its end are among them
  abbrev Fits : ℕ → State → Type 0
  Fits d outside = Unit {0}
  Fits d (inside last todo) = (r : ℕ) × (0 < r) × (r ≤ d) × Closes r todo

  deeper : (k : Kind) (r d : ℕ) → r ≤ d → depth_after k r ≤ depth_after k d
  deeper Enter r d h = omega (arith, h)
  deeper Exit r d h = omega (arith, h)

  enters-more : (e : Event) (d : ℕ) → enters CharacterReference e ≡ true → depth_after e.kind d ≡ suc d
  enters-more e d h = by e.kind (and_parts (is_enter e.kind) (same_name e.name CharacterReference) h).0
    where
      by : (k : Kind) → is_enter k ≡ true → depth_after k d ≡ suc d
      by Enter i = refl
      by Exit i = absurd (false≢true i)

  first-fits : (e : Event) (d : ℕ) (ys : List Event) → Closes 1 ys → depth_after e.kind d ≡ suc d → Fits (depth_after e.kind d) (behind e ys)
  first-fits e d [] h deep = tt
  first-fits e d (y ∷ ys) h deep = (1, omega arith, omega (arith, deep), h)

  next-fits : (e y : Event) (r d : ℕ) (ys : List Event) → e ≡ y → r ≤ d → Closes r (y ∷ ys) → Fits (depth_after e.kind d) (behind e ys)
  next-fits e y r d [] is l h = tt
  next-fits e y r d (z ∷ zs) is l h =
      let same : depth_after y.kind d ≡ depth_after e.kind d = ap (λ (x : Event). depth_after x.kind d) (sym is) in
      let less = deeper y.kind r d l in
      (depth_after y.kind r, h.0, omega (arith, less, same), h.1)

  step-fits : (s : State) (e : Event) (t : State) (d : ℕ) → Step s e t → Fits d s → Fits (depth_after e.kind d) t
  step-fits outside e t d (inl h) f = subst (Fits (depth_after e.kind d)) (sym h.1) tt
  step-fits outside e t d (inr h) f = subst (Fits (depth_after e.kind d)) (sym h.2) (first-fits e d h.0 h.1.closes (enters-more e d h.1.enter))
  step-fits (inside last []) e t d h f = absurd h
  step-fits (inside last (y ∷ ys)) e t d h f = subst (Fits (depth_after e.kind d)) (sym h.2) (next-fits e y f.0 d ys h.0 f.2 f.3)

  none-open : (s : State) (d : ℕ) → d ≡ 0 → Fits d s → s ≡ outside
  none-open outside d z f = refl
  none-open (inside last todo) d z f = absurd (let a = f.1 in let b = f.2 in omega (arith, a, b, z))

  abbrev AreCut : State → List Event × List Event → Type 0
  AreCut s p = Goes s p.0 outside × AreWhole p.1

  span-cut : (d : ℕ) (s : State) (es : List Event) → Goes s es outside → Fits d s → AreCut s (span_at d es)
  span-cut d s [] h f = (h, refl)
  span-cut d s (e ∷ es) h f =
      let t = h.0 in
      let deep = depth_after e.kind d in
      let fits = step-fits s e t d h.1 f in
      by t h.1 h.2 fits (span-cut deep t es h.2 fits) (deep == 0) refl
    where
      by : (t : State) → Step s e t → Goes t es outside → Fits (depth_after e.kind d) t → AreCut t (span_at (depth_after e.kind d) es) → (b : Bool) → (depth_after e.kind d == 0) ≡ b
          → AreCut s (cond b (e ∷ [], es) (e ∷ (span_at (depth_after e.kind d) es).0, (span_at (depth_after e.kind d) es).1))
      by t step rest fits more true z =
          let none = none-open t (depth_after e.kind d) (eqb-true (depth_after e.kind d) 0 z) fits in
          ((t, step, none), subst (λ r. Goes r es outside) none rest)
      by t step rest fits more false z = ((t, step, more.0), more.1)

  -- So each reference of an outermost span is whole
  pub spans-whole : (bound : ℕ) (es : List Event) → AreWhole es → AllByRecursion AreWhole (spans_in bound es)
  spans-whole zero es h = tt
  spans-whole (suc bound) [] h = tt
  spans-whole (suc bound) (e ∷ es) h = let c = span-cut 0 outside (e ∷ es) h tt in (c.0, spans-whole bound (span_at 0 (e ∷ es)).1 c.1)
