use Rattle.mdgfm_sections.proofs.NotesOfEvents.{notes-give-events, notes-of-events}
use Rattle.mdgfm_sections.proofs.laws.notes_of_events.Goals as goal

pub returns : goal.returns
returns c = record { labels = notes-of-events; events = notes-give-events }
