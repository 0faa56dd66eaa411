use Rattle.mdconstructs_machines.proofs.Prelude.{◌≡◌, renamed}
use Rattle.mdconstructs_machines.proofs.Mapped.{mapped}
use Rattle.mdconstructs_machines.proofs.wrap.rename_each.Given as goal

abbrev pub invariant-loop-event : goal.invariant-loop-event
invariant-loop-event l = l.events ≡ mapped renamed l.event-index l.fn.events
