-- Bytes behind others: what is left of them from an index on, and each of them.
use Rattle.std.proofs.Common.{◌≡◌, ℕ, ◌+◌, ◌++◌, List, length, drop, ap, ◌∙◌, arith}
use Rattle.std.proofs.Math.Seq.{drop-append-add}
use Rattle.std.specs.Prelude.{slice_get}
use Rattle.mdgfm_literals.proofs.Parts.{get-behind as get-on}

pub drop-behind : (before bytes : List ℕ) (i : ℕ) → drop (i + length before) (before ++ bytes) ≡ drop i bytes
drop-behind before bytes i = let back : i + length before ≡ length before + i = omega arith in ap (λ k. drop k (before ++ bytes)) back ∙ drop-append-add before bytes i

pub get-behind : (before bytes : List ℕ) (i : ℕ) → slice_get (before ++ bytes) (i + length before) ≡ slice_get bytes i
get-behind before bytes i = let back : i + length before ≡ length before + i = omega arith in ap (slice_get (before ++ bytes)) back ∙ get-on before bytes i
