use Rattle.std.proofs.Common.{◌≡◌, below_more, ◌==◌, ℕ, true, not, arith}
use Rattle.std.proofs.lemmas.Bool.{and_parts, eqb-false, ltb-true, not-true}
use Rattle.std.specs.Prelude.{nat_lt, slice_index}
use Rattle.mdinline_link_strings.specs.Reached.{IsDataByte}
use Rattle.mdinline_link_strings.proofs.data.are_data.Goals as goal

data-byte : (b : ℕ) → nat_lt 13 b ≡ true → not (b == 92) ≡ true → not (b == 38) ≡ true → IsDataByte b
data-byte b above back amp = (ltb-true 13 b above, eqb-false b 92 (not-true (b == 92) back), eqb-false b 38 (not-true (b == 38) amp))

pub loop-byte-preserved : goal.loop-byte-preserved
loop-byte-preserved c = λ tests.
    let p = and_parts _ _ tests in
    let q = and_parts _ _ p.0 in
    let r = and_parts _ _ q.0 in
    let b = slice_index c.args.block.now c.loop-byte.byte-index in
    below_more (λ k. IsDataByte (slice_index c.args.block.now k)) c.loop-byte.byte-index (c.loop-byte.invariant r.0) (data-byte b r.1 q.1 p.1)

pub returns : goal.returns
returns c = λ all k less. c.loop-byte.invariant all k (omega (arith, less, c.loop-byte-test.false))
