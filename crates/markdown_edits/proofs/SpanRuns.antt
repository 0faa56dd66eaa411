-- The walk over wanted spans goes as far as the longest run.
use Rattle.markdown_edits.proofs.Prelude.{◌≡◌, ℕ, suc, ◌+◌, ◌-◌, ◌≤◌, Bool, true, false, Option, Some, None, List, [], ◌∷◌, ◌++◌, length, take, drop, refl, sym, ◌∙◌, ap, subst, arith, append_assoc, append-nil, length-append, length-drop, take-append-drop, and-false, take-append-add, length-take-le, Event, Enter, Exit, Name, IsBalanced, empty, span, IsSpan, IsSpanRun, no_span, one_more, is_wanted, IsLongestRunFrom, is_enter, run_len, depth_after, names_after_all, nat_tests}
use Rattle.markdown_base.proofs.Balanced.{Closes, all_closed, closing, closes_from_open, names_after_all-append, names_after_balanced, none_is_not_some}

module _ (names : List Name) where
  -- a span in front of a run
  pub span_and_run : (e f : Event) (xs ys : List Event) {l : List Event} → l ≡ e ∷ (xs ++ f ∷ ys) → e.kind ≡ Enter → is_wanted names e.name ≡ true → f.kind ≡ Exit → f.name ≡ e.name → IsBalanced xs → IsSpanRun names ys → IsSpanRun names l
  span_and_run e f xs ys is en w ex eq b r =
      one_more (e ∷ (xs ++ f ∷ [])) ys (is ∙ sym (ap (λ t. e ∷ t) (append_assoc xs (f ∷ []) ys)))
      (record { enter = e; inside = xs; exit = f; whole = refl; enters = en; wanted = w; balanced = b; exits = ex; same = eq }) r

  -- its parts
  pub span_parts : (first rest : List Event) {l : List Event} → l ≡ first ++ rest → (s : IsSpan names first) → l ≡ s.enter ∷ (s.inside ++ s.exit ∷ rest)
  span_parts first rest is s = is ∙ ap (λ t. t ++ rest) s.whole ∙ ap (λ t. s.enter ∷ t) (append_assoc s.inside (s.exit ∷ []) rest)

  -- one event on, inside a span
  enter_inside : (e : Event) (es : List Event) (d : ℕ) → e.kind ≡ Enter → run_len names (suc d) (e ∷ es) ≡ suc (run_len names (suc (suc d)) es)
  enter_inside e es d k = grind (arith, nat_tests)

  exit_inside : (e : Event) (es : List Event) (d : ℕ) → e.kind ≡ Exit → run_len names (suc d) (e ∷ es) ≡ suc (run_len names d es)
  exit_inside e es d k = grind (arith, nat_tests)

  -- a walk inside a span goes over a balanced list
  pub run_len-balanced : {xs : List Event} → IsBalanced xs → (ys : List Event) (d : ℕ) → run_len names (suc d) (xs ++ ys) ≡ length xs + run_len names (suc d) ys
  run_len-balanced empty ys d = omega arith
  run_len-balanced (span e f us vs {l} is en ex same b c) ys d =
      rw (is, append_assoc us (f ∷ vs) ys, enter_inside e (us ++ f ∷ (vs ++ ys)) d en, run_len-balanced b (f ∷ (vs ++ ys)) (suc d), exit_inside f (vs ++ ys) (suc d) ex, run_len-balanced c ys d)
      (omega (arith, length-append us (f ∷ vs)))

  -- a whole span
  run_len-span : (e f : Event) (us vs : List Event) → e.kind ≡ Enter → is_wanted names e.name ≡ true → f.kind ≡ Exit → IsBalanced us → run_len names 0 (e ∷ (us ++ f ∷ vs)) ≡ suc (length us + suc (run_len names 0 vs))
  run_len-span e f us vs en w ex b = rw (en, w, run_len-balanced b (f ∷ vs) 0, exit_inside f vs 0 ex) (omega arith)

  -- a walk goes over a run
  pub run_len-run : {r : List Event} → IsSpanRun names r → (ys : List Event) → run_len names 0 (r ++ ys) ≡ length r + run_len names 0 ys
  run_len-run no_span ys = omega arith
  run_len-run (one_more first vs {l} is s c) ys =
      rw (span_parts first vs is s, append_assoc s.inside (s.exit ∷ vs) ys, run_len-span s.enter s.exit s.inside (vs ++ ys) s.enters s.wanted s.exits s.balanced, run_len-run c ys)
      (omega (arith, length-append s.inside (s.exit ∷ vs)))

  -- a walk over a balanced list, behind which it stops, goes over a run
  pub IsSpanRun-run_len : {b : List Event} (ys : List Event) → IsBalanced b → run_len names 0 ys ≡ 0 → IsSpanRun names (take (run_len names 0 (b ++ ys)) (b ++ ys))
  IsSpanRun-run_len ys empty z = rw z no_span
  IsSpanRun-run_len ys (span e f us vs {l} is en ex same b c) z =
      subst (λ (l : List Event). IsSpanRun names (take (run_len names 0 (l ++ ys)) (l ++ ys))) (sym is)
      (subst (λ (t : List Event). IsSpanRun names (take (run_len names 0 (e ∷ t)) (e ∷ t))) (sym (append_assoc us (f ∷ vs) ys))
      (wanted_or_not (is_wanted names e.name) refl (IsSpanRun-run_len ys c z)))
    where
      wanted_or_not : (w : Bool) → is_wanted names e.name ≡ w → IsSpanRun names (take (run_len names 0 (vs ++ ys)) (vs ++ ys)) → IsSpanRun names (take (run_len names 0 (e ∷ (us ++ f ∷ (vs ++ ys)))) (e ∷ (us ++ f ∷ (vs ++ ys))))
      wanted_or_not false w r = rw (w, and-false (is_enter e.kind)) no_span
      wanted_or_not true w r =
          rw (run_len-span e f us (vs ++ ys) en w ex b)
          (span_and_run e f us (take (run_len names 0 (vs ++ ys)) (vs ++ ys)) (ap (λ (t : List Event). e ∷ t) (take-append-add us (f ∷ (vs ++ ys)) (suc (run_len names 0 (vs ++ ys))))) en w ex same b r)

  -- what is left of a balanced list
  IsSpanRun-closes : {st : List Name} {l : List Event} → Closes st l → IsSpanRun names (take (run_len names 0 l) l)
  IsSpanRun-closes {l = l} (all_closed b) = subst (λ (t : List Event). IsSpanRun names (take (run_len names 0 t) t)) (append-nil l) (IsSpanRun-run_len [] b refl)
  IsSpanRun-closes (closing f xs ys is ex same b c) = subst (λ (t : List Event). IsSpanRun names (take (run_len names 0 t) t)) (sym is) (IsSpanRun-run_len (f ∷ ys) b (rw ex refl))

  -- the rest of a balanced list after a front of it: a walk over it goes over a run
  pub suffix_closes : (front rest : List Event) → IsBalanced (front ++ rest) → (o : Option (List Name)) → names_after_all (Some []) front ≡ o → IsSpanRun names (take (run_len names 0 rest) rest)
  suffix_closes front rest b None e =
      none_is_not_some [] (IsSpanRun names (take (run_len names 0 rest) rest)) (ap (λ o. names_after_all o rest) (sym e) ∙ sym (names_after_all-append (Some []) front rest) ∙ names_after_balanced b [])
  suffix_closes front rest b (Some st) e =
      IsSpanRun-closes (closes_from_open rest st (ap (λ o. names_after_all o rest) (sym e) ∙ sym (names_after_all-append (Some []) front rest) ∙ names_after_balanced b []))

  -- a walk stays inside its list
  pub run_len-le : (d : ℕ) (l : List Event) → run_len names d l ≤ length l
  run_len-le d [] = omega arith
  run_len-le d (e ∷ es) = let rest = run_len-le (depth_after e.kind d) es in grind (arith, nat_tests)

  -- the walk from an index of a balanced list
  pub IsLongestRunFrom-walk : (events : List Event) (i j : ℕ) → IsBalanced events → i ≤ length events → j ≡ i + run_len names 0 (drop i events) → IsLongestRunFrom names events i j
  IsLongestRunFrom-walk events i j b l e =
      let n : j - i ≡ run_len names 0 (drop i events) = omega arith in
      record {
        run = rw n (suffix_closes (take i events) (drop i events) (subst IsBalanced (sym (take-append-drop i events)) b) (names_after_all (Some []) (take i events)) refl);
        order = omega arith;
        within = omega (arith, run_len-le 0 (drop i events), length-drop i events);
        longest = λ m k r.
            let all = ap (run_len names 0) (sym (take-append-drop (m - i) (drop i events))) ∙ (run_len-run r (drop (m - i) (drop i events))) in
            omega (arith, all, (length-take-le (m - i) (drop i events) (omega (arith, length-drop i events))));
      }
