use Rattle.mdblock_table_marks.proofs.TableShapes.{tables_are_balanced}
use Rattle.mdblock_table_marks.proofs.laws.tables_are_balanced.Goals as goal

pub returns : goal.returns
returns c = tables_are_balanced
