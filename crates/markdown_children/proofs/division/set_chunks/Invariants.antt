use Rattle.markdown_children.proofs.Prelude.{ℕ, ◌-◌, length}
use Rattle.markdown_children.proofs.ChainOrder.Turns.{IsLeft}
use Rattle.markdown_children.proofs.division.set_chunks.Given as goal

abbrev pub invariant-loop-next : goal.invariant-loop-next
invariant-loop-next l = (f : ℕ) × IsLeft l.events l.child l.link_index l.chunks.items l.index l.start f

abbrev pub decreases-loop-next : goal.decreases-loop-next
decreases-loop-next l = length l.initial.events - l.index
