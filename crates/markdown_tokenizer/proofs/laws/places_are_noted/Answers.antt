use Rattle.markdown_tokenizer.proofs.Runs.Noted.{note-once_read, events-keep-noted}
use Rattle.markdown_tokenizer.proofs.laws.places_are_noted.Goals as goal

pub returns-clause-once_read : goal.returns-clause-once_read
returns-clause-once_read g c = note-once_read

pub returns-clause-events : goal.returns-clause-events
returns-clause-events g c = events-keep-noted
