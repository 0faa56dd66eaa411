use Rattle.markdown_tokenizer.proofs.Prelude.{ℕ, ◌+◌, ◌<◌, List, ◌∷◌, length, refl, subst, drop, drop_more, drop_all, get_or, false≢true, Point, FollowOn}
use Rattle.std.specs.Prelude.{◌↔◌}
use Rattle.markdown_tokenizer.specs.Ranges.{AfterGap}
use Rattle.markdown_tokenizer.proofs.ranges.follow_on.Goals as goal

-- what is left of the ranges begins with the next one
one-more : (t : ℕ) (bytes : List ℕ) (end place : Point) (ranges : List AfterGap) (n : ℕ) (d : AfterGap) → n < length ranges
    → FollowOn t bytes end ranges ↔ FollowOn t bytes place (drop n ranges) → FollowOn t bytes end ranges ↔ FollowOn t bytes place (get_or ranges n d ∷ drop (n + 1) ranges)
one-more t bytes end place ranges n d h =
    subst (λ (rest : List AfterGap). FollowOn t bytes end ranges ↔ FollowOn t bytes place rest) (drop_more ranges n d h)

pub loop-range-preserved : goal.loop-range-preserved
loop-range-preserved c =
    let ranges = c.args.ranges.now in let n = c.loop-range.range-index in
    let one = c.in-Some.ensures.some (drop (n + 1) ranges) in (
      λ h. one.0 ((one-more c.args.tab_size c.args.bytes.now c.args.end c.loop-range.place ranges n _ c.loop-range-test.true c.loop-range.invariant).0 h),
      λ h. (one-more c.args.tab_size c.args.bytes.now c.args.end c.loop-range.place ranges n _ c.loop-range-test.true c.loop-range.invariant).1 (one.1 h),
    )

pub returns-in-None : goal.returns-in-None
returns-in-None c =
    let ranges = c.args.ranges.now in let n = c.loop-range.range-index in (
      λ h. absurd (false≢true h),
      λ h. absurd (c.in-None.ensures.none refl (drop (n + 1) ranges) ((one-more c.args.tab_size c.args.bytes.now c.args.end c.loop-range.place ranges n _ c.loop-range-test.true c.loop-range.invariant).0 h)),
    )

pub returns : goal.returns
returns c =
    let ranges = c.args.ranges.now in
    let left = subst (λ (rest : List AfterGap). FollowOn c.args.tab_size c.args.bytes.now c.args.end ranges ↔ FollowOn c.args.tab_size c.args.bytes.now c.loop-range.place rest)
    (drop_all c.loop-range.range-index ranges c.loop-range-test.false) c.loop-range.invariant in
    (λ h. left.1 tt, λ h. refl)
