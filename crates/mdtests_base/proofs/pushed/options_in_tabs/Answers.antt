use Rattle.mdtests_base.proofs.Prelude.{refl}
use Rattle.mdtests_base.proofs.pushed.options_in_tabs.Goals as goal

pub returns : goal.returns
returns c = rw c.default.ensures refl
