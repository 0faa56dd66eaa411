-- Lists seen from behind: a walk back is a walk over the mirror, and goes as far as the longest run that ends there.
use Rattle.markdown_edits.proofs.Prelude.{Bool, ◌≡◌, ℕ, zero, suc, ◌+◌, ◌-◌, ◌<◌, ◌≤◌, cond, Some, List, [], ◌∷◌, ◌++◌, length, take, drop, get_or, refl, sym, ◌∙◌, ap, subst, arith, append_assoc, append-nil, length-append, length-drop, take-append-drop, drop-append_seam, drop-take, length-take-le, between, Event, Kind, Enter, Exit, Name, IsBalanced, empty, span, names_after_all, IsSpanRun, no_span, one_more, is_wanted, IsLongestRunTo, IsFront, run_len, is_stop, depth_after, flip, flip_kind, mirror}
use Rattle.markdown_base.proofs.Balanced.{IsBalanced-append}
use Rattle.markdown_edits.proofs.SpanRuns.{span_and_run, span_parts, run_len-run, suffix_closes}

pub mirror-append : (xs ys : List Event) → mirror (xs ++ ys) ≡ mirror ys ++ mirror xs
mirror-append [] ys = sym (append-nil (mirror ys))
mirror-append (x ∷ xs) ys = ap (λ t. t ++ flip x ∷ []) (mirror-append xs ys) ∙ append_assoc (mirror ys) (mirror xs) (flip x ∷ [])

flip-flip : (e : Event) → flip (flip e) ≡ e
flip-flip e = ap (λ (k : Kind). record e { kind = k }) (elim e.kind as (λ k. flip_kind (flip_kind k) ≡ k) [ Enter ↦ refl | Exit ↦ refl ])

pub mirror-mirror : (xs : List Event) → mirror (mirror xs) ≡ xs
mirror-mirror [] = refl
mirror-mirror (x ∷ xs) = mirror-append (mirror xs) (flip x ∷ []) ∙ (λ i. flip-flip x i ∷ mirror-mirror xs i)

pub length-mirror : (xs : List Event) → length (mirror xs) ≡ length xs
length-mirror [] = refl
length-mirror (x ∷ xs) = length-append (mirror xs) (flip x ∷ []) ∙ omega (arith, length-mirror xs)

mirror_span : (e f : Event) (us vs : List Event) → mirror (e ∷ (us ++ f ∷ vs)) ≡ mirror vs ++ (flip f ∷ (mirror us ++ flip e ∷ []))
mirror_span e f us vs = simp (mirror-append, append_assoc)

pub IsBalanced-mirror : {xs : List Event} → IsBalanced xs → IsBalanced (mirror xs)
IsBalanced-mirror empty = empty
IsBalanced-mirror (span e f us vs {l} is en ex same b c) =
    subst IsBalanced (sym (ap mirror is ∙ mirror_span e f us vs))
    (IsBalanced-append (mirror vs) (flip f ∷ (mirror us ++ flip e ∷ [])) (IsBalanced-mirror c) (span (flip f) (flip e) (mirror us) [] refl (ap flip_kind ex) (ap flip_kind en) (sym same) (IsBalanced-mirror b) empty))

module _ (names : List Name) where
  IsSpanRun-append : {xs : List Event} (ys : List Event) → IsSpanRun names xs → IsSpanRun names ys → IsSpanRun names (xs ++ ys)
  IsSpanRun-append ys no_span r = r
  IsSpanRun-append ys (one_more first vs is s c) r =
      one_more first (vs ++ ys) (ap (λ t. t ++ ys) is ∙ append_assoc first vs ys) s (IsSpanRun-append ys c r)

  pub IsSpanRun-mirror : {xs : List Event} → IsSpanRun names xs → IsSpanRun names (mirror xs)
  IsSpanRun-mirror no_span = no_span
  IsSpanRun-mirror (one_more first vs is s c) =
      subst (IsSpanRun names) (sym (ap mirror (span_parts names first vs is s) ∙ mirror_span s.enter s.exit s.inside vs))
      (IsSpanRun-append (flip s.exit ∷ (mirror s.inside ++ flip s.enter ∷ [])) (IsSpanRun-mirror c)
      (span_and_run names (flip s.exit) (flip s.enter) (mirror s.inside) [] refl (ap flip_kind s.exits) (ap (is_wanted names) s.same ∙ s.wanted) (ap flip_kind s.enters) (sym s.same) (IsBalanced-mirror s.balanced) no_span))

  -- a stretch is a back of a front, or a front of a back
  drop_take : (a b : ℕ) (xs : List Event) → a ≤ b → drop a (take b xs) ≡ take (b - a) (drop a xs)
  drop_take a b xs l =
      let z : a + (b - a) ≡ b = omega arith in
      subst (λ k. drop a (take k xs) ≡ take (b - a) (drop a xs)) z (drop-take a (b - a) xs)

  -- the walk back from an index of a front of a balanced list
  pub IsLongestRunTo-walk : (events : List Event) (i j : ℕ) → IsFront events → i < length events → j + run_len names 0 (mirror (take (i + 1) events)) ≡ i + 1 → IsLongestRunTo names events i j
  IsLongestRunTo-walk events i j b l e =
      let f : List Event = take (i + 1) events in
      let flen : length f ≡ i + 1 = length-take-le (i + 1) events (omega arith) in
      let rest : List Event = drop (i + 1) events ++ b.0 in
      let parts : f ++ rest ≡ events ++ b.0 = sym (append_assoc f (drop (i + 1) events) b.0) ∙ ap (λ t. t ++ b.0) (take-append-drop (i + 1) events) in
      let whole : IsBalanced (mirror rest ++ mirror f) = subst IsBalanced (mirror-append f rest) (IsBalanced-mirror (subst IsBalanced (sym parts) b.1)) in
      let n : ℕ = run_len names 0 (mirror f) in
      let behind : List Event = mirror (drop n (mirror f)) in
      let front : List Event = mirror (take n (mirror f)) in
      let both : behind ++ front ≡ f = sym (mirror-append (take n (mirror f)) (drop n (mirror f))) ∙ ap mirror (take-append-drop n (mirror f)) ∙ mirror-mirror f in
      let len : length behind ≡ j = length-mirror (drop n (mirror f)) ∙ length-drop n (mirror f) ∙ omega (arith, length-mirror f) in
      let back : front ≡ between j (i + 1) events = sym (drop-append_seam behind front) ∙ ap (λ k. drop k (behind ++ front)) len ∙ ap (drop j) both ∙ drop_take j (i + 1) events (omega arith) in
      record {
        run = subst (IsSpanRun names) back (IsSpanRun-mirror (suffix_closes names (mirror rest) (mirror f) whole (names_after_all (Some []) (mirror rest)) refl));
        order = omega arith;
        longest = λ m k r.
            let run : IsSpanRun names (drop m f) = subst (IsSpanRun names) (sym (drop_take m (i + 1) events k)) r in
            let all = ap (run_len names 0) (ap mirror (sym (take-append-drop m f)) ∙ mirror-append (take m f) (drop m f)) ∙ run_len-run names (IsSpanRun-mirror run) (mirror (take m f)) in
            omega (arith, all, length-mirror (drop m f), length-drop m f);
      }

-- one event more in front
pub mirror_more : (xs : List Event) (i : ℕ) (d : Event) → i < length xs → mirror (take (suc i) xs) ≡ flip (get_or xs i d) ∷ mirror (take i xs)
mirror_more [] i d l = absurd (omega arith)
mirror_more (x ∷ xs) zero d l = refl
mirror_more (x ∷ xs) (suc i) d l = ap (λ t. t ++ flip x ∷ []) (mirror_more xs i d (omega arith))

-- one event back
pub back_more : (names : List Name) (xs : List Event) (at depth : ℕ) (d event : Event) (stops : Bool) → event ≡ flip (get_or xs (at - 1) d) → is_stop names event depth ≡ stops
    → 0 < at → at ≤ length xs → run_len names depth (mirror (take at xs)) ≡ cond stops 0 (1 + run_len names (depth_after event.kind depth) (mirror (take (at - 1) xs)))
back_more names xs at depth d event stops e s p l =
    let z : at ≡ suc (at - 1) = omega arith in
    let more = mirror_more xs (at - 1) d (omega arith) in
    rw (← s, e) (ap (λ k. run_len names depth (mirror (take k xs))) z ∙ ap (run_len names depth) more)
