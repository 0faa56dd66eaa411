use Rattle.std.proofs.Common.{◌≡◌, ◌+◌, ◌≤◌, ◌++◌, drop}
use Rattle.mddocument_link_targets.specs.Strings.{text}
use Rattle.mddocument_link_targets.proofs.strings.text_of.Given as goal

abbrev pub invariant-loop-i : goal.invariant-loop-i
invariant-loop-i g l = record {
  same : l.out.items ++ text l.bytes l.reading (drop l.i l.events) ≡ text l.bytes l.reading l.events;
  turns : l.turns ≤ l.fn.turns + l.i;
}
