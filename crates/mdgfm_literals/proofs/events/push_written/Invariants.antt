use Rattle.std.proofs.Common.{◌≡◌, ◌-◌, ◌≤◌, ◌++◌, drop, length}
use Rattle.mdgfm_literals.specs.LiteralEvents.{written}
use Rattle.mdgfm_literals.proofs.events.push_written.Given as goal

-- what was written, and what comes
abbrev pub invariant-loop-count : goal.invariant-loop-count
invariant-loop-count l = record {
  events : l.out.items ++ (written l.tab l.bytes l.first l.stop l.place (drop l.count l.literals)).events ≡ l.fn.out.items ++ (written l.tab l.bytes l.first l.stop l.fn.before.place (drop l.fn.before.count l.literals)).events;
  place : (written l.tab l.bytes l.first l.stop l.place (drop l.count l.literals)).place ≡ (written l.tab l.bytes l.first l.stop l.fn.before.place (drop l.fn.before.count l.literals)).place;
  left : (written l.tab l.bytes l.first l.stop l.place (drop l.count l.literals)).left ≡ (written l.tab l.bytes l.first l.stop l.fn.before.place (drop l.fn.before.count l.literals)).left;
  room : l.count ≤ length l.literals;
}

abbrev pub decreases-loop-count : goal.decreases-loop-count
decreases-loop-count l = length l.literals - l.count
