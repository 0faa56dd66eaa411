use Rattle.std.proofs.Common.{◌≡◌, ◌+◌, ◌≤◌, length}
use Rattle.mdhtml_document.proofs.Labels.{label_from}
use Rattle.mdhtml_document.proofs.notes.label_inside.Given as goal

abbrev pub invariant-events : goal.invariant-events
invariant-events l = record {
  same : label_from l.bytes l.depth l.rest ≡ label_from l.bytes 0 l.behind;
  few : l.depth + length l.rest ≤ length l.behind;
}

abbrev pub decreases-events : goal.decreases-events
decreases-events l = length l.rest
