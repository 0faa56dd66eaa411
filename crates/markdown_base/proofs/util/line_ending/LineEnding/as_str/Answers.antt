use Rattle.markdown_base.proofs.Prelude.{refl}
use Rattle.markdown_base.proofs.util.line_ending.LineEnding.as_str.Goals as goal

pub returns-in-CarriageReturn : goal.returns-in-CarriageReturn
returns-in-CarriageReturn c = rw c.in-CarriageReturn.is refl
