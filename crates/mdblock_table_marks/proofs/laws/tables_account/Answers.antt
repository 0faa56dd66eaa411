use Rattle.mdblock_table_marks.proofs.TableShapes.{tables_account}
use Rattle.mdblock_table_marks.proofs.laws.tables_account.Goals as goal

pub returns : goal.returns
returns c = tables_account
