use Rattle.std.proofs.Common.{◌≡◌, ◌++◌, drop}
use Rattle.mddocument_link_targets.specs.Strings.{as_written}
use Rattle.mddocument_references.proofs.references.label_of.Given as goal

abbrev pub invariant-loop-i : goal.invariant-loop-i
invariant-loop-i l = record {
  same : l.label.items ++ as_written l.bytes (drop l.i l.events) ≡ as_written l.bytes l.events;
}
