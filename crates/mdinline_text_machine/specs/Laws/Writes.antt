-- What states of constructs write: sizes, which leave nothing to resolve.
use Rattle.std.proofs.Common.{ℕ}
use Rattle.mdconstructs_tables.specs.PlainTables.{IsPlainEverywhere}
use Rattle.mdinline_text_machine.specs.TextSizes.{size_b_is, size_c_is, size_b_grows, size_c_grows}

pub b-is : {R D : Type 0} (n : ℕ) → IsPlainEverywhere (λ s. size_b_is {R = R} {D = D} n)
b-is n s k h = h

pub b-grows : {R D : Type 0} → IsPlainEverywhere (λ s. size_b_grows {R = R} {D = D})
b-grows s k h = h

pub c-is : {R D : Type 0} (n : ℕ) → IsPlainEverywhere (λ s. size_c_is {R = R} {D = D} n)
c-is n s k h = h

pub c-grows : {R D : Type 0} → IsPlainEverywhere (λ s. size_c_grows {R = R} {D = D})
c-grows s k h = h
