use Rattle.mdinline_emphasis.proofs.Balance.{leaves-balanced}
use Rattle.mdinline_emphasis.proofs.laws.emphasis_is_balanced.Goals as goal

pub returns : goal.returns
returns c = leaves-balanced
