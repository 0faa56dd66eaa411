use Rattle.markdown_base.proofs.CharLemmas.{code_point_written}
use Rattle.markdown_base.proofs.util.char.code_point.Goals as goal

pub returns : goal.returns
returns c = record { shown = code_point_written c.format.result c.in_radix.result c.laid_out.result c.args.number c.in_radix.ensures c.laid_out.ensures c.format.ensures.ok }
