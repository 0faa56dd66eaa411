-- The edits of a heading can be added one after another: none is where another one is.
use Rattle.std.proofs.Common.{◌≡◌, ℕ, ◌+◌, ◌<◌, ◌≤◌, List, [], ◌∷◌, ◌++◌, refl, sym, subst, arith}
use Rattle.std.specs.Prelude.{◌^◌, slice_get}
use Rattle.std.specs.List.{AllByRecursion}
use Rattle.std.proofs.lemmas.Bool.Decides.{nat_tests}
use Rattle.markdown_base.specs.declared.event.Event.{Event}
use Rattle.markdown_edits.specs.Edits.{Edit, edit_at, added_after, removal_at}
use Rattle.markdown_base.specs.declared.event.Name.{Name as EventName}
use Rattle.markdown_tokenizer.specs.Calls.{with_local}
use Rattle.markdown_tokenizer.specs.Configuration.{TokenizerValue, at_configuration}
use Rattle.mdconstructs_tables.specs.Chunks.{last_event}
use Rattle.mdblock_leaf_rows.specs.HeadingEdits.{with_names, renaming, renamed, CanEndHeading}
use Rattle.mdblock_leaf_rows.specs.Laws.Headings.{added-last, below-more}

none-removed : (n : ℕ) (es : List Edit) → AllByRecursion (λ (e : Edit). e.index < n) es → removal_at es n ≡ 0
none-removed n [] h = refl
none-removed n (e ∷ es) h = let rest = none-removed n es h.1 in let less = h.0 in grind (arith, nat_tests, rest, less)

-- behind all edits one more can be added
pub fits-behind : (n : ℕ) (es : List Edit) → AllByRecursion (λ (e : Edit). e.index < n) es → removal_at es n + 1 < 2 ^ 64
fits-behind n es h = subst (λ r. r + 1 < 2 ^ 64) (sym (none-removed n es h)) (omega arith)

-- and then they are all before a later index
pub still-behind : (i n : ℕ) (es : List Edit) (additions : List Event) → i < n → AllByRecursion (λ (e : Edit). e.index < i) es → AllByRecursion (λ (e : Edit). e.index < n) (added_after es (edit_at i 1 additions))
still-behind i n es additions l h = subst (λ ds. AllByRecursion (λ (e : Edit). e.index < n) ds) (sym (added-last es i additions h)) (below-more es i n additions l h)

weaker : (j n : ℕ) (es : List Edit) → j ≤ n → AllByRecursion (λ (e : Edit). e.index < j) es → AllByRecursion (λ (e : Edit). e.index < n) es
weaker j n [] l h = tt
weaker j n (e ∷ es) l h = (omega (arith, l, h.0), weaker j n es l h.1)

-- an edit of one event removes no more
at-most-one : (es : List Edit) (j n : ℕ) (additions : List Event) → removal_at (es ++ edit_at j 1 additions ∷ []) n ≤ removal_at es n + 1
at-most-one [] j n additions = grind (arith, nat_tests)
at-most-one (e ∷ es) j n additions = let rest = at-most-one es j n additions in omega (arith, rest)

few : (n : ℕ) → n ≤ 1 → n + 1 < 2 ^ 64
few n h = omega (arith, h)

module _ {M R D : Type 0} (t : TokenizerValue M R D) (can : CanEndHeading t.configuration) where
  -- the first edit can be added, and behind it the second, and behind them the third
  pub first-fits : (first : ℕ) → first ≡ t.configuration.local.tokenize_state.end → removal_at t.configuration.local.map first + 1 < 2 ^ 64
  first-fits first is = subst (λ n. removal_at t.configuration.local.map n + 1 < 2 ^ 64) (sym is) (fits-behind t.configuration.local.tokenize_state.end t.configuration.local.map can.edits)

  behind-first : (names : List EventName) → let k = t.configuration in AllByRecursion (λ (e : Edit). e.index < k.local.tokenize_state.start) (added_after k.local.map (renaming k.events k.local.tokenize_state.end names))
  behind-first names = let k = t.configuration in still-behind k.local.tokenize_state.end k.local.tokenize_state.start k.local.map (with_names names (slice_get k.events k.local.tokenize_state.end)) can.order can.edits

  pub second-fits : (u : TokenizerValue M R D) (first second : ℕ) (names : List EventName) → first ≡ t.configuration.local.tokenize_state.end → second ≡ t.configuration.local.tokenize_state.start
      → u ≡ at_configuration t (with_local t.configuration (renamed first names t.configuration)) → removal_at u.configuration.local.map second + 1 < 2 ^ 64
  second-fits u first second names is at there =
      let k = t.configuration in
      subst (λ (v : TokenizerValue M R D). removal_at v.configuration.local.map second + 1 < 2 ^ 64) (sym there)
      (subst (λ n. removal_at (added_after k.local.map (renaming k.events n names)) second + 1 < 2 ^ 64) (sym is)
      (subst (λ n. removal_at (added_after k.local.map (renaming k.events k.local.tokenize_state.end names)) n + 1 < 2 ^ 64) (sym at)
      (fits-behind k.local.tokenize_state.start (added_after k.local.map (renaming k.events k.local.tokenize_state.end names)) (behind-first names))))

  pub third-fits : (u v : TokenizerValue M R D) (first second third : ℕ) (names others : List EventName) → first ≡ t.configuration.local.tokenize_state.end → second ≡ t.configuration.local.tokenize_state.start
      → third ≡ last_event t.configuration
      → u ≡ at_configuration t (with_local t.configuration (renamed first names t.configuration))
      → v ≡ at_configuration u (with_local u.configuration (renamed second others u.configuration)) → removal_at v.configuration.local.map third + 1 < 2 ^ 64
  third-fits u v first second third names others is at last there then =
      let k = t.configuration in
      let i = k.local.tokenize_state.end in
      let j = k.local.tokenize_state.start in
      let n = last_event k in
      let one = added_after k.local.map (renaming k.events i names) in
      let additions = with_names others (slice_get k.events j) in
      let within = can.within in
      let none = none-removed n one (weaker j n one (omega (arith, within)) (behind-first names)) in
      let most = at-most-one one j n additions in
      let two : removal_at (added_after one (renaming k.events j others)) n + 1 < 2 ^ 64 =
      subst (λ ds. removal_at ds n + 1 < 2 ^ 64) (sym (added-last one j additions (behind-first names))) (few (removal_at (one ++ edit_at j 1 additions ∷ []) n) (omega (arith, most, none))) in
      subst (λ (w : TokenizerValue M R D). removal_at w.configuration.local.map third + 1 < 2 ^ 64) (sym then)
      (subst (λ (w : TokenizerValue M R D). removal_at (added_after w.configuration.local.map (renaming w.configuration.events second others)) third + 1 < 2 ^ 64) (sym there)
      (subst (λ m. removal_at (added_after (added_after k.local.map (renaming k.events m names)) (renaming k.events second others)) third + 1 < 2 ^ 64) (sym is)
      (subst (λ m. removal_at (added_after one (renaming k.events m others)) third + 1 < 2 ^ 64) (sym at)
      (subst (λ m. removal_at (added_after one (renaming k.events j others)) m + 1 < 2 ^ 64) (sym last) two))))
