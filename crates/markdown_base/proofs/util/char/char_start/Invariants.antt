use Rattle.markdown_base.proofs.Prelude.{◌<◌}
use Rattle.markdown_base.proofs.util.char.char_start.Given as goal

abbrev pub invariant-loop-start : goal.invariant-loop-start
invariant-loop-start l = l.start < l.index

abbrev pub decreases-loop-start : goal.decreases-loop-start
decreases-loop-start l = l.start
