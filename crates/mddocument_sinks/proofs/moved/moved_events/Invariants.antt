use Rattle.std.proofs.Common.{◌≡◌, map, take}
use Rattle.mddocument_parts.specs.Moved.{moved_event}
use Rattle.mddocument_sinks.proofs.moved.moved_events.Given as goal

abbrev pub invariant-loop-event : goal.invariant-loop-event
invariant-loop-event l = l.all.items ≡ map (moved_event l.lines l.bytes 0) (take l.event-index l.events)
