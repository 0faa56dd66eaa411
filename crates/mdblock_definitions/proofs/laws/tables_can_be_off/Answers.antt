use Rattle.mdblock_definitions.proofs.TablesOff.{tables-can-be-off}
use Rattle.mdblock_definitions.proofs.laws.tables_can_be_off.Goals as goal

pub returns : goal.returns
returns c = tables-can-be-off
