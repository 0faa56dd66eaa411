use Rattle.std.proofs.Common.{◌≡◌, ◌+◌, ◌≤◌, None, length}
use Rattle.mdhtml_document.specs.Walks.{last_from}
use Rattle.mdhtml_document.proofs.note_section.last_paragraph.Given as goal

abbrev pub invariant-events : goal.invariant-events
invariant-events l = record {
  same : last_from l.at l.skip l.last l.rest ≡ last_from 0 0 None l.events;
  few : l.at + length l.rest ≤ length l.events;
}

abbrev pub decreases-events : goal.decreases-events
decreases-events l = length l.rest
