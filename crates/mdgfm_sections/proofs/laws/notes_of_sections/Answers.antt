use Rattle.mdgfm_sections.proofs.NotesOfSections.{notes-of-sections}
use Rattle.mdgfm_sections.proofs.laws.notes_of_sections.Goals as goal

pub returns : goal.returns
returns c = notes-of-sections
