use Rattle.markdown_edits.proofs.Prelude.{◌≡◌, ◌++◌, ◌-◌, take, drop, place_by, relinked_by}
use Rattle.markdown_edits.proofs.splice.push_moved.Given as goal

abbrev pub invariant-loop-event : goal.invariant-loop-event
invariant-loop-event l = l.out.items ≡ l.fn.out.items ++ relinked_by (place_by l.shifts 0 0) (take l.event-index (take (l.to - l.from) (drop l.from l.events)))
