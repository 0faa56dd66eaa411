use Rattle.mddocument_editing.proofs.Prelude.{note}
use Rattle.mddocument_editing.proofs.asking.is_note_changed.Goals as goal

pub is_changed-requires : goal.is_changed-requires
is_changed-requires c = λ label. c.requires (note label)
