use Rattle.mdinline_links.proofs.LinkPlaces.{stay-inside}
use Rattle.mdinline_links.proofs.laws.links_keep_places.Goals as goal

pub returns : goal.returns
returns c = stay-inside
