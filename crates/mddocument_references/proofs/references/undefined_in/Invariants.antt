use Rattle.std.proofs.Common.{◌≡◌, ◌++◌, drop}
use Rattle.mdinline_labels.specs.Defined.{defines}
use Rattle.mddocument_references.specs.References.{undefined_from, undefined_in}
use Rattle.mddocument_references.proofs.references.undefined_in.Given as goal

abbrev pub invariant-loop-i : goal.invariant-loop-i
invariant-loop-i l = record {
  same : l.found.items ++ undefined_from l.on l.bytes (defines l.labels) l.in_text (drop l.i l.events) ≡ undefined_in l.on l.bytes (defines l.labels) l.events;
}
