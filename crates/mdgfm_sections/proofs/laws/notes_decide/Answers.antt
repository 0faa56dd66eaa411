use Rattle.mdgfm_sections.proofs.Decide.{notes-decide}
use Rattle.mdgfm_sections.proofs.laws.notes_decide.Goals as goal

pub returns : goal.returns
returns c = notes-decide
