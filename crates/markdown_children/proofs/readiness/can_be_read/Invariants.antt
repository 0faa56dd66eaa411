use Rattle.markdown_children.proofs.Prelude.{AllBelow, can_be_read_from}
use Rattle.markdown_children.proofs.readiness.can_be_read.Given as goal

abbrev pub invariant-loop-index : goal.invariant-loop-index
invariant-loop-index l = AllBelow l.index (can_be_read_from l.starts l.filter l.events)
