use Rattle.mdhtml_document.proofs.SafeNotes.{notes-safe}
use Rattle.mdhtml_document.proofs.laws.html_with_notes_is_safe.Goals as goal

pub returns : goal.returns
returns c = notes-safe
