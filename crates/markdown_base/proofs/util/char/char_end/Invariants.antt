use Rattle.markdown_base.proofs.Prelude.{length, ◌-◌, ◌<◌, ◌≤◌}
use Rattle.markdown_base.proofs.util.char.char_end.Given as goal

abbrev pub invariant-loop-end : goal.invariant-loop-end
invariant-loop-end l = (l.index < l.end) × (l.end ≤ length l.bytes)

abbrev pub decreases-loop-end : goal.decreases-loop-end
decreases-loop-end l = length l.bytes - l.end
