use Rattle.mdgfm_documents.proofs.LinksKept.{links-are-kept, links-hold-no-links, links-hold-none}
use Rattle.mdgfm_documents.proofs.laws.links_hold_no_links.Goals as goal

pub returns : goal.returns
returns c = record { kept = links-are-kept; none = links-hold-none; documents = links-hold-no-links }
