use Rattle.mdinline_emphasis.proofs.Struck.{tildes-are-whole}
use Rattle.mdinline_emphasis.proofs.laws.tildes_are_whole.Goals as goal

pub returns : goal.returns
returns c = tildes-are-whole
