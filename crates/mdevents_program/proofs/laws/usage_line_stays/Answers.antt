use Rattle.mdevents_program.proofs.Prelude.{refl}
use Rattle.mdevents_program.proofs.laws.usage_line_stays.Goals as goal

pub returns : goal.returns
returns c = refl
