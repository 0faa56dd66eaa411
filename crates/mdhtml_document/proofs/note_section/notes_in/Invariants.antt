use Rattle.std.proofs.Common.{◌≡◌, [], ℕ, List, length}
use Rattle.mdhtml_document.specs.Frames.{open_notes}
use Rattle.mdhtml_document.specs.Walks.{first_note, found_by, noted}
use Rattle.mdhtml_document.proofs.note_section.notes_in.Given as goal

abbrev pub invariant-events : goal.invariant-events
invariant-events l = (label : List ℕ) → found_by l.notes label (noted l.bytes l.skip (open_notes l.notes.around.items) l.rest) ≡ first_note label (noted l.bytes 0 [] l.events)

abbrev pub decreases-events : goal.decreases-events
decreases-events l = length l.rest
