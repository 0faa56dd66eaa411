use Rattle.markdown_base.specs.Virtual.{virtual}
use Rattle.mdconstructs_machines.specs.LineEvents.{lines_in}
use Rattle.mdblock_definitions.specs.Rows.{rows}
use Rattle.mdblock_definitions.proofs.parts.skeleton_counted.Given as goal

abbrev pub ghost-skeleton_by : goal.ghost-skeleton_by
ghost-skeleton_by g a = rows a.on.now (lines_in (virtual a.tab a.bytes.now))
