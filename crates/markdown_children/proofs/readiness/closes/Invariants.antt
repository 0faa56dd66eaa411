use Rattle.markdown_children.proofs.Prelude.{◌≡◌, Some, [], reverse, drop, names_after_all}
use Rattle.markdown_children.proofs.readiness.closes.Given as goal

abbrev pub invariant-loop-event : goal.invariant-loop-event
invariant-loop-event l = names_after_all (Some (reverse l.names.items)) (drop l.event-index l.events) ≡ names_after_all (Some []) l.events
