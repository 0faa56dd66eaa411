use Rattle.markdown_edits.proofs.Prelude.{ap, edits_of}
use Rattle.markdown_edits.proofs.tree.Tree.append.Goals as goal

pub returns-clause-ok : goal.returns-clause-ok
returns-clause-ok c = rw (← c.self.view_is, ← c.more.view_is) (c.in_ok-push_copies.ensures.ok, ap edits_of c.clear.ensures.empty)
