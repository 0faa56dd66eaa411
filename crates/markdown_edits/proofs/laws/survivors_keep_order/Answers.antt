use Rattle.markdown_edits.proofs.Edits.Survivors.{stays_unless_removed, keeps_order}
use Rattle.markdown_edits.proofs.laws.survivors_keep_order.Goals as goal

pub returns : goal.returns
returns c = record { stays = stays_unless_removed; order = keeps_order }
