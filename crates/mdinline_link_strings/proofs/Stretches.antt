-- Events between two indices.
use Rattle.std.proofs.Common.{◌≡◌, ◌∙◌, ◌+◌, ◌-◌, ◌<◌, ◌≤◌, ◌++◌, ℕ, suc, List, [], ◌∷◌, ap, arith, drop, length, length-drop, take}
use Rattle.std.proofs.lemmas.List.{get_or-drop}
use Rattle.std.proofs.Math.Seq.{take-suc}
use Rattle.std.specs.List.{between}
use Rattle.std.specs.Prelude.{slice_index_or}
use Rattle.markdown_base.specs.declared.event.Event.{Event}

module _ (es : List Event) where
  -- one more is between them
  pub between-more : (i j k : ℕ) (d : Event) → i ≤ j → j < length es → k ≡ j + 1 → between i k es ≡ between i j es ++ slice_index_or es j d ∷ []
  between-more i j k d up inside one =
      let long = length-drop i es in
      let more : k - i ≡ suc (j - i) = omega (arith, one) in
      let at : i + (j - i) ≡ j = omega arith in
      ap (λ n. take n (drop i es)) more ∙ take-suc (drop i es) (j - i) d (omega (arith, long))
      ∙ ap (λ x. between i j es ++ x ∷ []) (get_or-drop i es (j - i) d ∙ ap (λ n. slice_index_or es n d) at)

  -- none is between an index and itself
  pub between-same : (i j : ℕ) → j ≡ i → between i j es ≡ []
  between-same i j h = let none : j - i ≡ 0 = omega (arith, h) in ap (λ n. take n (drop i es)) none
