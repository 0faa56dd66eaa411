use Rattle.mdblock_table_marks.proofs.TableShapes.{tables_have_no_chunks}
use Rattle.mdblock_table_marks.proofs.laws.tables_have_no_chunks.Goals as goal

pub returns : goal.returns
returns c = tables_have_no_chunks
