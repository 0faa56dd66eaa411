use Rattle.mddocument_rules.proofs.MadeTexts.{made-by-labels, made-by-texts}
use Rattle.mddocument_rules.proofs.laws.made_references_lead_to_their_texts.Goals as goal

pub returns-clause-texts : goal.returns-clause-texts
returns-clause-texts c = made-by-texts

pub returns-clause-labels : goal.returns-clause-labels
returns-clause-labels c = made-by-labels
