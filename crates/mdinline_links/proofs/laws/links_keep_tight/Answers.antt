use Rattle.mdinline_links.proofs.LinkTight.{links-tight}
use Rattle.mdinline_links.proofs.laws.links_keep_tight.Goals as goal

pub returns : goal.returns
returns c = links-tight
