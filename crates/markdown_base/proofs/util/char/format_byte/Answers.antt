use Rattle.markdown_base.proofs.Prelude.{sym}
use Rattle.markdown_base.proofs.util.char.format_byte.Goals as goal

pub returns : goal.returns
returns c = record { shown = rw (sym c.from.ensures) c.format.ensures.shown }
