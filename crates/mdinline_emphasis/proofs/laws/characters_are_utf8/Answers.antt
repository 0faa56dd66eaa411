use Rattle.mdinline_emphasis.proofs.CharsFound.{chars-are-utf8}
use Rattle.mdinline_emphasis.proofs.laws.characters_are_utf8.Goals as goal

pub returns : goal.returns
returns c = chars-are-utf8
