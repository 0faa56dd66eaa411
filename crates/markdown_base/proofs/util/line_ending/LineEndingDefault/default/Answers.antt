use Rattle.markdown_base.proofs.Prelude.{refl}
use Rattle.markdown_base.proofs.util.line_ending.LineEndingDefault.default.Goals as goal

pub returns : goal.returns
returns c = refl
