use Rattle.markdown_edits.proofs.Edits.Survivors.{stays_as_it_was, keeps_links}
use Rattle.markdown_edits.proofs.laws.survivors_keep_links.Goals as goal

pub returns : goal.returns
returns c = record { events = stays_as_it_was; links = keeps_links }
