use Rattle.mdinline_links.proofs.LinkEdits.{links-can-be-made}
use Rattle.mdinline_links.proofs.laws.links_can_be_made.Goals as goal

pub returns : goal.returns
returns c = links-can-be-made
