use Rattle.markdown_base.proofs.Prelude.{arith, common_steps}
use Rattle.markdown_base.proofs.event.Name.as_str.Goals as goal

pub returns : goal.returns
returns c = grind (arith, common_steps)
