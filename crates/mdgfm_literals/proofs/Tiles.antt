-- Events whose innermost spans tile bytes: each event stands where the one before it does, but for an exit directly behind an enter.
use Rattle.std.proofs.Common.{◌≡◌, ℕ, zero, suc, ◌+◌, ◌-◌, ◌≤◌, ◌++◌, Bool, true, false, cond, List, [], ◌∷◌, drop, take, refl, sym, ap, subst, ◌∙◌, arith}
use Rattle.std.proofs.lemmas.Bool.{true≢false}
use Rattle.std.specs.List.{AllByRecursion}
use Rattle.std.specs.Prelude.{◌==◌, ◌&&◌, not}
use Rattle.markdown_base.specs.declared.event.Event.{Event}
use Rattle.markdown_base.specs.declared.event.Point.{Point}
use Rattle.markdown_base.specs.Events.{is_enter}
use Rattle.mdgfm_literals.specs.Laws.{TileBytes, ended_behind, innermost_ranges}
use Rattle.mdgfm_events.specs.Spans.{span_end, span_size}
use Rattle.mdgfm_literals.proofs.Fits.{Rise, drop-one, never}
use Rattle.mdgfm_literals.proofs.Whole.{Ends}

-- an exit comes directly behind an enter, if this is `inside`
abbrev pub ends_inner : (inside : Bool) → Event → Bool
ends_inner inside e = inside && not (is_enter e.kind)

-- behind an event at an index, which is an enter if this is `inside`
abbrev pub Tiled : (to : ℕ) → (inside : Bool) → (at : ℕ) → List Event → Type 0
Tiled to inside at [] = at ≡ to
Tiled to inside at (e ∷ es) = (at ≤ e.point.index) × (ends_inner inside e ≡ false → e.point.index ≡ at) × Tiled to (is_enter e.kind) e.point.index es

-- ---- what it says of innermost spans

module _ (to : ℕ) where
  -- the first of them, if it was entered at an index
  abbrev front : (inside : Bool) → (at : ℕ) → List Event → List (ℕ × ℕ)
  front inside at [] = []
  front inside at (f ∷ fs) = cond inside (cond (is_enter f.kind) [] ((at, f.point.index) ∷ [])) []

  abbrev ranges : (inside : Bool) → (at : ℕ) → List Event → List (ℕ × ℕ)
  ranges inside at es = front inside at es ++ innermost_ranges es

  none-inside : (at : ℕ) (es : List Event) → front false at es ≡ []
  none-inside at [] = refl
  none-inside at (e ∷ es) = refl

  front-ended : (e : Event) (es : List Event) → front true e.point.index es ≡ ended_behind e es
  front-ended e [] = refl
  front-ended e (f ∷ fs) = refl

  -- one event on, that ends no innermost span
  on-ranges : (inside : Bool) (at : ℕ) (e : Event) (es : List Event) → ends_inner inside e ≡ false → ranges inside at (e ∷ es) ≡ ranges (is_enter e.kind) e.point.index es
  on-ranges inside at e es h = by inside (is_enter e.kind) h
    where
      by : (i k : Bool) → (i && not k) ≡ false
          → cond i (cond k [] ((at, e.point.index) ∷ [])) [] ++ (cond k (ended_behind e es) [] ++ innermost_ranges es) ≡ front k e.point.index es ++ innermost_ranges es
      by true true h = ap (λ rs. rs ++ innermost_ranges es) (sym (front-ended e es))
      by true false h = absurd (true≢false h)
      by false true h = ap (λ rs. rs ++ innermost_ranges es) (sym (front-ended e es))
      by false false h = ap (λ rs. rs ++ innermost_ranges es) (sym (none-inside e.point.index es))

  -- that ends one
  end-ranges : (inside : Bool) (at : ℕ) (e : Event) (es : List Event) → ends_inner inside e ≡ true
      → ranges inside at (e ∷ es) ≡ (at, e.point.index) ∷ ranges (is_enter e.kind) e.point.index es
  end-ranges inside at e es h = by inside (is_enter e.kind) h
    where
      by : (i k : Bool) → (i && not k) ≡ true
          → cond i (cond k [] ((at, e.point.index) ∷ [])) [] ++ (cond k (ended_behind e es) [] ++ innermost_ranges es)
          ≡ (at, e.point.index) ∷ (front k e.point.index es ++ innermost_ranges es)
      by true true h = absurd (true≢false (sym h))
      by true false h = ap (λ rs. (at, e.point.index) ∷ (rs ++ innermost_ranges es)) (sym (none-inside e.point.index es))
      by false k h = absurd (true≢false (sym h))

  -- an event is not behind the end of the innermost spans before it
  upper : (inside : Bool) (at : ℕ) (es : List Event) (end : ℕ) → Rise at es → at ≤ to → AllByRecursion (λ e. e.point.index ≤ to) es → TileBytes end (ranges inside at es) to → at ≤ end
  upper inside at [] end r h all t = omega (arith, h, t)
  upper inside at (e ∷ es) end r h all t = by (ends_inner inside e) refl (λ k. upper (is_enter e.kind) e.point.index es end r.1 all.0 all.1 k)
    where
      by : (b : Bool) → ends_inner inside e ≡ b → (TileBytes end (ranges (is_enter e.kind) e.point.index es) to → e.point.index ≤ end) → at ≤ end
      by true ends more = let first : at ≡ end = (subst (λ rs. TileBytes end rs to) (end-ranges inside at e es ends) t).0 in omega (arith, first)
      by false goes more = let below = more (subst (λ rs. TileBytes end rs to) (on-ranges inside at e es goes) t) in omega (arith, below, r.0)

  tiled-of : (inside : Bool) (at : ℕ) (es : List Event) (end : ℕ) → end ≡ at → Rise at es → at ≤ to → AllByRecursion (λ e. e.point.index ≤ to) es
      → TileBytes end (ranges inside at es) to → Tiled to inside at es
  tiled-of inside at [] end is r h all t = sym is ∙ t
  tiled-of inside at (e ∷ es) end is r h all t =
      by (ends_inner inside e) refl (λ stop here k. tiled-of (is_enter e.kind) e.point.index es stop here r.1 all.0 all.1 k)
    where
      by : (b : Bool) → ends_inner inside e ≡ b
          → ((stop : ℕ) → stop ≡ e.point.index → TileBytes stop (ranges (is_enter e.kind) e.point.index es) to → Tiled to (is_enter e.kind) e.point.index es)
          → Tiled to inside at (e ∷ es)
      by true ends more =
          let first = subst (λ rs. TileBytes end rs to) (end-ranges inside at e es ends) t in
          (r.0, (λ isnt. never (ends_inner inside e) ends isnt), more e.point.index refl first.1)
      by false goes more =
          let rest = subst (λ rs. TileBytes end rs to) (on-ranges inside at e es goes) t in
          let below = upper (is_enter e.kind) e.point.index es end r.1 all.0 all.1 rest in
          let here : end ≡ e.point.index = omega (arith, below, is, r.0) in
          (r.0, (λ isnt. sym here ∙ is), more end here rest)

  pub tiled-from : (at : ℕ) (es : List Event) → Rise at es → at ≤ to → AllByRecursion (λ e. e.point.index ≤ to) es → TileBytes at (innermost_ranges es) to → Tiled to false at es
  tiled-from at es r h all t = tiled-of false at es at refl r h all (subst (λ rs. TileBytes at (rs ++ innermost_ranges es) to) (sym (none-inside at es)) t)

  of-tiled : (inside : Bool) (at : ℕ) (es : List Event) → Tiled to inside at es → TileBytes at (ranges inside at es) to
  of-tiled inside at [] t = t
  of-tiled inside at (e ∷ es) t = by (ends_inner inside e) refl (of-tiled (is_enter e.kind) e.point.index es t.2)
    where
      by : (b : Bool) → ends_inner inside e ≡ b → TileBytes e.point.index (ranges (is_enter e.kind) e.point.index es) to → TileBytes at (ranges inside at (e ∷ es)) to
      by true ends more = subst (λ rs. TileBytes at rs to) (sym (end-ranges inside at e es ends)) (refl, more)
      by false goes more =
          subst (λ rs. TileBytes at rs to) (sym (on-ranges inside at e es goes)) (subst (λ i. TileBytes i (ranges (is_enter e.kind) e.point.index es) to) (t.1 goes) more)

  pub tiles : (at : ℕ) (es : List Event) → Tiled to false at es → TileBytes at (innermost_ranges es) to
  tiles at es t = subst (λ rs. TileBytes at (rs ++ innermost_ranges es) to) (none-inside at es) (of-tiled false at es t)

  -- ---- spans, and fronts of events

  pub tiled-end : (p : Point) (n : ℕ) (inside : Bool) (at : ℕ) (es : List Event) → Ends n es → Tiled to inside at es
      → Tiled to false (span_end p n es).index (drop (span_size n es) es)
  tiled-end p n inside at [] h t = absurd h
  tiled-end p n inside at (e ∷ es) h t =
      by (is_enter e.kind) (n == 0) refl refl (λ k. tiled-end p (n + 1) (is_enter e.kind) e.point.index es k t.2) (λ k. tiled-end p (n - 1) (is_enter e.kind) e.point.index es k t.2)
    where
      by : (k z : Bool) → is_enter e.kind ≡ k → (n == 0) ≡ z
          → (Ends (n + 1) es → Tiled to false (span_end p (n + 1) es).index (drop (span_size (n + 1) es) es))
          → (Ends (n - 1) es → Tiled to false (span_end p (n - 1) es).index (drop (span_size (n - 1) es) es))
          → Tiled to false (cond k (span_end p (n + 1) es) (cond z e.point (span_end p (n - 1) es))).index
          (drop (cond k (span_size (n + 1) es + 1) (cond z 1 (span_size (n - 1) es + 1))) (e ∷ es))
      by true z k-is z-is inner outer =
          subst (λ ts. Tiled to false (span_end p (n + 1) es).index ts) (sym (drop-one (span_size (n + 1) es) e es)) (inner (h.0 k-is))
      by false true k-is z-is inner outer = subst (λ k. Tiled to k e.point.index es) k-is t.2
      by false false k-is z-is inner outer =
          subst (λ ts. Tiled to false (span_end p (n - 1) es).index ts) (sym (drop-one (span_size (n - 1) es) e es)) (outer (h.1 k-is z-is))

  pub tiled-take : (n : ℕ) (inside : Bool) (at : ℕ) (es more : List Event) → Tiled to inside at es
      → ((i : Bool) (c : ℕ) → at ≤ c → Tiled to i c (drop n es) → Tiled to i c more) → Tiled to inside at (take n es ++ more)
  tiled-take zero inside at es more t k = k inside at (omega arith) t
  tiled-take (suc n) inside at [] more t k = k inside at (omega arith) t
  tiled-take (suc n) inside at (e ∷ es) more t k =
      (t.0, t.1, tiled-take n (is_enter e.kind) e.point.index es more t.2 (λ i c h tc. k i c (omega (arith, h, t.0)) tc))
