use Rattle.mddocument_parts.proofs.Virtual.{virtual-of-both}
use Rattle.mddocument_parts.proofs.laws.virtual_of_both.Goals as goal

pub returns : goal.returns
returns c = virtual-of-both
