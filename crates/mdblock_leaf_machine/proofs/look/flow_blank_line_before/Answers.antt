use Rattle.std.proofs.Common.{rules}
use Rattle.mdblock_leaf_rows.proofs.Dashes.{at-dash}
use Rattle.mdblock_leaf_machine.proofs.look.flow_blank_line_before.Goals as goal

pub returns-in-Some-eq45 : goal.returns-in-Some-eq45
returns-in-Some-eq45 g c = at-dash c.args.t.now c.dash_may_begin.new.t c.dash_may_begin.result (search rules) c.dash_may_begin.ensures
