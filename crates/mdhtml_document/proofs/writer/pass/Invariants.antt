use Rattle.std.proofs.Common.{◌≡◌, ◌+◌, ◌≤◌, length}
use Rattle.mdhtml_document.specs.Frames.{events_past, lists_past}
use Rattle.mdhtml_document.proofs.writer.pass.Given as goal

abbrev pub invariant-events : goal.invariant-events
invariant-events l = record {
  lists : lists_past l.depth l.lists l.rest ≡ lists_past 0 l.given l.events;
  events : events_past l.depth l.rest ≡ events_past 0 l.events;
  few : l.depth + length l.rest ≤ length l.events;
}

abbrev pub decreases-events : goal.decreases-events
decreases-events l = length l.rest
