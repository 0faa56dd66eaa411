use Rattle.mdblock_definitions.proofs.Covered.{sections-hold-lines}
use Rattle.mdblock_definitions.proofs.laws.sections_hold_lines.Goals as goal

pub returns : goal.returns
returns c = sections-hold-lines
