use Rattle.mdinline_emphasis.proofs.Prelude.{◌≡◌, ◌+◌, ◌-◌, ◌/◌, false, suc, take, drop, sym, subst, arith, in_ranges}
use Rattle.mdinline_emphasis.proofs.Ranges.{none-from, none-up-to, some-range, none-at-all}
use Rattle.mdinline_emphasis.proofs.classes.is_in.Goals as goal

pub loop-low-preserved-then-code-first : goal.loop-low-preserved-then-code-first
loop-low-preserved-then-code-first c =
    let inv = c.loop-low.invariant in
    let middle = c.loop-low.low + (c.loop-low.high - c.loop-low.low) / 2 in
    (omega arith, omega (arith, inv.1, c.loop-low-test.true), inv.2, none-from 0 c.args.ranges.now middle _ c.args.code c.requires.sorted (omega (arith, inv.1, c.loop-low-test.true)) c.if-code-first.true)

pub loop-low-preserved : goal.loop-low-preserved
loop-low-preserved c =
    let inv = c.loop-low.invariant in
    let middle = c.loop-low.low + (c.loop-low.high - c.loop-low.low) / 2 in
    let next : suc middle ≡ middle + 1 = omega arith in (
      omega (arith, c.loop-low-test.true),
      inv.1,
      subst (λ n. in_ranges (take n c.args.ranges.now) c.args.code ≡ false) next
          (none-up-to 0 c.args.ranges.now middle _ c.args.code c.requires.sorted (omega (arith, inv.1, c.loop-low-test.true)) c.if-last-code.true),
      inv.3,
    )

pub returns-else-last-code : goal.returns-else-last-code
returns-else-last-code c =
    let inv = c.loop-low.invariant in
    let middle = c.loop-low.low + (c.loop-low.high - c.loop-low.low) / 2 in
    sym (some-range c.args.ranges.now middle _ c.args.code (omega (arith, inv.1, c.loop-low-test.true)) c.if-code-first.false c.if-last-code.false)

pub returns : goal.returns
returns c =
    let inv = c.loop-low.invariant in
    let met : c.loop-low.high ≡ c.loop-low.low = omega (arith, inv.0, c.loop-low-test.false) in
    sym (none-at-all c.args.ranges.now c.loop-low.low c.args.code inv.2 (subst (λ n. in_ranges (drop n c.args.ranges.now) c.args.code ≡ false) met inv.3))
