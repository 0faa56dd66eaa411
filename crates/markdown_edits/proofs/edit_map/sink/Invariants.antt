use Rattle.markdown_edits.proofs.Prelude.{◌≡◌, ◌++◌, length}
use Rattle.markdown_edits.proofs.edit_map.sink.Given as goal

abbrev pub invariant-loop-front : goal.invariant-loop-front
invariant-loop-front l = l.front ++ l.behind ≡ l.fn.front ++ l.fn.behind

abbrev pub decreases-loop-front : goal.decreases-loop-front
decreases-loop-front l = length l.front
