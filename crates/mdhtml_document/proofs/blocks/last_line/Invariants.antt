use Rattle.std.proofs.Common.{◌≡◌, ◌≤◌, drop, length}
use Rattle.std.specs.List.{list_any}
use Rattle.std.specs.Prelude.{false}
use Rattle.markdown_base.specs.declared.event.Name.TheVariants as name
use Rattle.mddocument_link_targets.specs.Spans.{enters}
use Rattle.mdhtml_document.proofs.blocks.last_line.Given as goal

abbrev pub invariant-loop-from : goal.invariant-loop-from
invariant-loop-from l = record {
  none : list_any (enters name.LineEnding) (drop l.from l.events) ≡ false;
  within : l.from ≤ length l.events;
}

abbrev pub decreases-loop-from : goal.decreases-loop-from
decreases-loop-from l = l.from
