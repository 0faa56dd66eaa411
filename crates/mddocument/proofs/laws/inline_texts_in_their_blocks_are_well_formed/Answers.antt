use Rattle.mddocument.proofs.FlowTexts.InlineForms.{inlines-formed}
use Rattle.mddocument.proofs.laws.inline_texts_in_their_blocks_are_well_formed.Goals as goal

pub returns : goal.returns
returns c = inlines-formed
