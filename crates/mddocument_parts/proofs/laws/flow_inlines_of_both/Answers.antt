use Rattle.mddocument_parts.proofs.ReadTexts.{flow-inlines-of-both}
use Rattle.mddocument_parts.proofs.laws.flow_inlines_of_both.Goals as goal

pub returns : goal.returns
returns c = flow-inlines-of-both
