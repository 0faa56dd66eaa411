use Rattle.mdgfm_sections.proofs.Tasks.{tasks-behind, tasks-move, tasks-of-parts}
use Rattle.mdgfm_sections.proofs.laws.tasks_of_parts.Goals as goal

pub returns : goal.returns
returns c = record { moved = tasks-move; behind = tasks-behind; parts = tasks-of-parts }
