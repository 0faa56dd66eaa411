use Rattle.std.proofs.Common.{◌≡◌, ◌-◌, ◌≤◌, ◌++◌, drop, length}
use Rattle.mdinline_machine.specs.Brackets.{spanned_bytes}
use Rattle.mdinline_machine.proofs.labels.spanned_bytes.Given as goal

-- what the events so far stand for was written
abbrev pub invariant-loop-next : goal.invariant-loop-next
invariant-loop-next l = record {
  written : l.spanned.items ++ spanned_bytes l.bytes (drop (l.next - 1) l.events) ≡ spanned_bytes l.bytes l.events;
  begun : 1 ≤ l.next;
}

abbrev pub decreases-loop-next : goal.decreases-loop-next
decreases-loop-next l = length l.events - l.next
