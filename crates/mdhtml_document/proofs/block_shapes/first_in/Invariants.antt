use Rattle.std.proofs.Common.{◌≡◌, drop}
use Rattle.mddocument_link_targets.specs.Spans.{first_in}
use Rattle.mdhtml_document.proofs.block_shapes.first_in.Given as goal

abbrev pub invariant-loop-i : goal.invariant-loop-i
invariant-loop-i l = first_in l.name (drop l.i l.events) ≡ first_in l.name l.events
