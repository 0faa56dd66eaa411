use Rattle.std.proofs.Common.{◌-◌, ◌≤◌, length, reverse, take}
use Rattle.mdhtml_document.specs.Frames.{IsNumbered, calls_of}
use Rattle.mdhtml_document.proofs.notes.numbered_by.Given as goal

abbrev pub invariant-loop-at : goal.invariant-loop-at
invariant-loop-at l = record {
  known : IsNumbered l.all (reverse (calls_of (take l.at l.calls)));
  room : l.at ≤ length l.calls;
}

abbrev pub decreases-loop-at : goal.decreases-loop-at
decreases-loop-at l = length l.calls - l.at
