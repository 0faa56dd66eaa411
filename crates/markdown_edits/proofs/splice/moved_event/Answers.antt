use Rattle.markdown_edits.proofs.Prelude.{refl}
use Rattle.markdown_edits.proofs.splice.moved_event.Goals as goal

pub returns-in-Some : goal.returns-in-Some
returns-in-Some c = let link = c.in-Some.is in let a = c.moved_end.ensures in let b = c.moved_end-in-Some.ensures in rw (link, a, b) refl
