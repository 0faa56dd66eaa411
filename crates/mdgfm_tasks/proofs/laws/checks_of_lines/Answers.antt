-- The definitions compute what is told.
use Rattle.mdgfm_tasks.proofs.Examples.{lines-told}
use Rattle.mdgfm_tasks.proofs.laws.checks_of_lines.Goals as goal

pub returns : goal.returns
returns c = lines-told
