use Rattle.std.proofs.Common.{◌≡◌, ◌+◌, ◌≤◌, drop}
use Rattle.mddocument_link_targets.specs.Spans.{first_in}
use Rattle.mddocument_link_targets.proofs.spans.first_in.Given as goal

abbrev pub invariant-loop-i : goal.invariant-loop-i
invariant-loop-i g l = record {
  same : first_in l.name (drop l.i l.events) ≡ first_in l.name l.events;
  turns : l.turns ≤ l.fn.turns + l.i;
}
