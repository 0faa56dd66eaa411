use Rattle.mddocument_parts.proofs.SkeletonOfBoth.{skeleton-of-both}
use Rattle.mddocument_parts.proofs.laws.skeleton_of_both.Goals as goal

pub returns : goal.returns
returns c = skeleton-of-both
