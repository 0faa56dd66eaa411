use Rattle.mdtests_engine.proofs.Prelude.{ℕ, ◌<◌, length, get_or, Event, EndsBelow}
use Rattle.mdtests_engine.proofs.division.has_ends_within.Given as goal

abbrev pub invariant-loop-event : goal.invariant-loop-event
invariant-loop-event l = (k : ℕ) (d : Event) → k < l.event-index → EndsBelow (length l.events) (get_or l.events k d)
