use Rattle.mddocument.proofs.Prelude.{◌↔◌, drop, AreRanges, FollowFrom}
use Rattle.mddocument.proofs.ranges.are_ranges.Given as goal

-- the ranges are such as can be read exactly if those that are left are
abbrev pub invariant-loop-range : goal.invariant-loop-range
invariant-loop-range l = AreRanges l.bytes l.ranges ↔ FollowFrom l.bytes l.end (drop l.range-index l.ranges)
