use borrow.Author.Count.{below_more}
use Rattle.std.proofs.Common.{◌≡◌, ◌<◌, ℕ, Bool, true, false, subst, sym, refl, arith}
use Rattle.std.proofs.lemmas.Bool.{and_parts, ltb-true}
use Rattle.std.proofs.lemmas.Grind.{get_or_default_zero}
use Rattle.std.specs.Bool.{OnTrue}
use Rattle.std.specs.Prelude.{All, slice_index}
use Rattle.mdblock_leaf_machine.proofs.over.are_in_line.Goals as goal

-- what follows from true holds on it
on-true : (b : Bool) (P : Type 0) → (b ≡ true → P) → OnTrue b P
on-true true P h = h refl
on-true false P h = tt

pub loop-byte-preserved : goal.loop-byte-preserved
loop-byte-preserved c = λ both.
    let parts = and_parts _ _ both in
    below_more (λ k. 13 < slice_index c.args.block.now k) c.loop-byte.byte-index (c.loop-byte.invariant parts.0) (ltb-true _ _ parts.1)

pub returns : goal.returns
returns c = on-true _ (All (λ byte. 13 < byte) c.args.block.now) (λ all k d less.
    subst (λ (n : ℕ). 13 < n) (sym (get_or_default_zero c.args.block.now k d less)) (c.loop-byte.invariant all k (omega (arith, less, c.loop-byte-test.false))))
