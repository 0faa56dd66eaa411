use Rattle.mdhtml_document.proofs.FlowNotes.{notes-flow-all}
use Rattle.mdhtml_document.proofs.laws.html_with_notes_is_flow.Goals as goal

pub returns : goal.returns
returns c = notes-flow-all
