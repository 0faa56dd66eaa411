use Rattle.mdconstructs_machines.proofs.NoFurther.{paragraphs-look}
use Rattle.mdconstructs_machines.proofs.laws.paragraphs_look_no_further.Goals as goal

pub returns : goal.returns
returns c = paragraphs-look
