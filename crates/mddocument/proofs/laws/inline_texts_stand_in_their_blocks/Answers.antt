use Rattle.mddocument.proofs.FlowTexts.Whole.{inlines-are-read}
use Rattle.mddocument.proofs.laws.inline_texts_stand_in_their_blocks.Goals as goal

pub returns : goal.returns
returns c = inlines-are-read
