use Rattle.std.proofs.Common.{◌≤◌, ◌+◌, ◌*◌, ◌-◌, length}
use Rattle.std.specs.List.{AllByRecursion}
use Rattle.mdblock_containers.specs.Costs.{columns_in}
use Rattle.mdblock_containers.specs.Over.{AreOver}
use Rattle.mdblock_containers.specs.Spans.{ArePlaced}
use Rattle.mdblock_containers.specs.Views.{before_of}
use Rattle.mdblock_containers.proofs.RowFacts.{BeganBefore}
use Rattle.mdblock_definitions.specs.Known.{IsKept}
use Rattle.mdblock_definitions.proofs.KnownLemmas.{AreRead}
use Rattle.mdblock_definitions.proofs.rows.rows_with_definitions.Given as goal

abbrev pub invariant-loop-start : goal.invariant-loop-start
invariant-loop-start g l = record {
  within : l.start ≤ length l.bytes;
  depth : l.known.before.depth ≤ length l.known.before.stack.items;
  over : AreOver (length l.found.items + 1) l.known.before.over l.known.before.depth l.known.before.stack.items;
  began : AllByRecursion (BeganBefore (length l.found.items + 1)) (before_of l.known.before).stack;
  placed : ArePlaced l.tab l.bytes 1 0 l.found.items l.start;
  kept : IsKept (l.turns + l.known.before.over + 3 * length l.known.last.items) (l.fn.turns + 1706 * columns_in l.found.items) l.known.text.items;
  read : AreRead l.on l.tab l.bytes l.found.items l.known (length l.found.items + 1) l.start;
}

abbrev pub decreases-loop-start : goal.decreases-loop-start
decreases-loop-start g l = length l.bytes - l.start
