use Rattle.markdown_children.proofs.Prelude.{is_sound_at, AllBelow}
use Rattle.markdown_children.proofs.readiness.are_sound.Given as goal

abbrev pub invariant-loop-index : goal.invariant-loop-index
invariant-loop-index l = AllBelow l.index (is_sound_at l.events)
