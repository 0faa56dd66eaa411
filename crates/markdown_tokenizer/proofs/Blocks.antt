-- Blocks of bytes: what holds of each byte of a block.
use Rattle.std.proofs.lemmas.List.{get_or-drop, get_or-take, length-drop, length-take-le}
use Rattle.std.specs.Prelude.{slice_range}
use Rattle.markdown_tokenizer.proofs.Prelude.{◌≡◌, ◌+◌, ◌-◌, ◌≤◌, ◌<◌, ℕ, List, All, inl, inr, ap, ◌∙◌, subst, arith, cases_lt, drop, get_or, length, slice_index}

-- it holds of each byte up to the end of the block, if it held of each before
pub and_block : (P : ℕ → Type 0) (xs : List ℕ) (from at n : ℕ) → at + n ≤ length xs → ((k : ℕ) → from ≤ k → k < at → P (slice_index xs k)) → All P (slice_range xs at (at + n))
    → (k : ℕ) → from ≤ k → k < at + n → P (slice_index xs k)
and_block P xs from at n inside before block k least most = elim (cases_lt k at) [
  | inl lt ↦ before k least lt
  | inr ge ↦
      let size : (at + n) - at ≡ n = omega arith in
      let long = length-take-le ((at + n) - at) (drop at xs) (omega (arith, inside, length-drop at xs)) in
      let place : at + (k - at) ≡ k = omega (arith, ge) in
      subst P (get_or-take ((at + n) - at) (drop at xs) (k - at) 0 (omega (arith, ge, most)) ∙ get_or-drop at xs (k - at) 0 ∙ ap (λ i. get_or xs i 0) place)
      (block (k - at) 0 (omega (arith, long, size, ge, most)))
]
