use Rattle.mddocument_rules.proofs.Emphasised.{emphasis-stands}
use Rattle.mddocument_rules.proofs.Links.{links-stand}
use Rattle.mddocument_rules.proofs.laws.links_and_emphasis_stand_in_texts.Goals as goal

pub returns-clause-emphasis : goal.returns-clause-emphasis
returns-clause-emphasis c = emphasis-stands

pub returns-clause-links : goal.returns-clause-links
returns-clause-links c = links-stand
