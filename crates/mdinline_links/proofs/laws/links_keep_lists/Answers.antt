use Rattle.mdinline_links.proofs.Leaves.{links-balanced, links-unlinked}
use Rattle.mdinline_links.proofs.laws.links_keep_lists.Goals as goal

pub returns : goal.returns
returns c one bytes es = (links-balanced one bytes es, links-unlinked one bytes es)
