use Rattle.mddocument_rules.proofs.DocumentLinks.{links-apart-in-documents}
use Rattle.mddocument_rules.proofs.LinksApart.{links-apart-in-texts}
use Rattle.mddocument_rules.proofs.laws.no_link_is_in_a_link.Goals as goal

pub returns-clause-texts : goal.returns-clause-texts
returns-clause-texts c = links-apart-in-texts

pub returns-clause-documents : goal.returns-clause-documents
returns-clause-documents c = links-apart-in-documents
