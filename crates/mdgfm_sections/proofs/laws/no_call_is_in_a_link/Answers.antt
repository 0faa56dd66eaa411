use Rattle.mdgfm_sections.proofs.LinkNames.{none-is-in-links}
use Rattle.mdgfm_sections.proofs.laws.no_call_is_in_a_link.Goals as goal

pub returns : goal.returns
returns c = none-is-in-links
