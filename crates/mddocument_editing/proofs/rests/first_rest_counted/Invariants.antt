use Rattle.mddocument_editing.proofs.Prelude.{◌<◌, ◌≤◌, ◌+◌, ◌-◌, length, AllByRecursion, before_of, BeganBefore, HasNoRestBefore}
use Rattle.mdblock_containers.specs.Over.{AreOver}
use Rattle.mddocument_editing.proofs.RestLines.{IsAtLine}
use Rattle.mddocument_editing.proofs.rests.first_rest_counted.Given as goal

abbrev pub invariant-loop-start : goal.invariant-loop-start
invariant-loop-start g l = record {
  within : l.start ≤ length l.bytes;
  few : l.number ≤ l.start + 1;
  depth : l.known.before.depth ≤ length l.known.before.stack.items;
  over : AreOver l.number l.known.before.over l.known.before.depth l.known.before.stack.items;
  began : AllByRecursion (BeganBefore l.number) (before_of l.known.before).stack;
  at : l.start < length l.bytes → IsAtLine l.options l.bytes l.known l.number l.start;
  none : HasNoRestBefore l.options l.bytes l.start;
}

abbrev pub decreases-loop-start : goal.decreases-loop-start
decreases-loop-start g l = length l.bytes - l.start
