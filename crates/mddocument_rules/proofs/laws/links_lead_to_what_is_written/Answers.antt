use Rattle.mddocument_rules.proofs.Reworked.{all-links-lead-alike, links-lead-alike}
use Rattle.mddocument_rules.proofs.laws.links_lead_to_what_is_written.Goals as goal

pub returns-clause-links : goal.returns-clause-links
returns-clause-links c = links-lead-alike

pub returns-clause-all : goal.returns-clause-all
returns-clause-all c = all-links-lead-alike
