use Rattle.markdown_base.specs.Virtual.{virtual}
use Rattle.mdconstructs_machines.specs.LineEvents.{lines_in}
use Rattle.mdblock_containers.specs.Rows.{rows}
use Rattle.mdblock_containers.proofs.skeleton.skeleton_counted.Given as goal

abbrev pub ghost-skeleton_by : goal.ghost-skeleton_by
ghost-skeleton_by g a = rows a.on.now (lines_in (virtual a.tab a.bytes.now))
