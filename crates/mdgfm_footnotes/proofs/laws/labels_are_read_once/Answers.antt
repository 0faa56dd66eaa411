use Rattle.mdgfm_footnotes.proofs.Read.{labels-are-read-once}
use Rattle.mdgfm_footnotes.proofs.laws.labels_are_read_once.Goals as goal

pub returns : goal.returns
returns c = labels-are-read-once
