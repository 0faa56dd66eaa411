use Rattle.std.proofs.Common.{◌≡◌, ◌+◌, ◌≤◌, ℕ, List, drop, length}
use Rattle.mddocument_link_targets.specs.Costs.{definitions_cost}
use Rattle.mddocument_link_targets.specs.Defined.{defined_at}
use Rattle.mddocument_link_targets.specs.Targets.{definition_from}
use Rattle.mddocument_link_targets.proofs.definitions.definitions_of_counted.Given as goal

abbrev pub invariant-loop-at : goal.invariant-loop-at
invariant-loop-at g l = record {
  known : (label : List ℕ) → defined_at l.all label ≡ definition_from l.bytes label l.at (drop l.at l.events);
  turns : l.turns ≤ l.fn.turns + definitions_cost (drop l.at l.events);
  room : l.at ≤ length l.events;
}

abbrev pub decreases-loop-at : goal.decreases-loop-at
decreases-loop-at g l = l.at
