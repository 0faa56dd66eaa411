use Rattle.std.proofs.Common.{refl}
use Rattle.mdprograms.proofs.status.failed.Goals as goal

pub returns : goal.returns
returns g c = refl
