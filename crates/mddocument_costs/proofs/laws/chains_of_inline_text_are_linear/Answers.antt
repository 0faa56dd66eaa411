use Rattle.mddocument_costs.proofs.InlineCalls.{strings-linear, texts-linear}
use Rattle.mddocument_costs.proofs.laws.chains_of_inline_text_are_linear.Goals as goal

pub returns : goal.returns
returns c = record { texts = texts-linear; strings = strings-linear }
