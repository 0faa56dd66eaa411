use Rattle.mdhtml_document.proofs.SafeNotes.{notes-text}
use Rattle.mdhtml_document.proofs.laws.html_with_notes_keeps_text.Goals as goal

pub returns : goal.returns
returns c = notes-text
