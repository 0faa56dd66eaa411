use Rattle.std.proofs.Common.{◌≡◌, ◌-◌, ◌≤◌, ◌++◌, drop, length, true}
use Rattle.mdgfm_literals.specs.Stretches.{literals_of}
use Rattle.mdgfm_literals.proofs.stretches.literals_of.Given as goal

-- those that were added, and those that come
abbrev pub invariant-loop-at : goal.invariant-loop-at
invariant-loop-at l = record {
  same : l.all.items ++ literals_of l.bytes l.fresh l.depth 0 (drop l.at l.events) ≡ literals_of l.bytes true 0 0 l.events;
  few : l.depth ≤ l.at;
  room : l.at ≤ length l.events;
}

abbrev pub decreases-loop-at : goal.decreases-loop-at
decreases-loop-at l = length l.events - l.at
