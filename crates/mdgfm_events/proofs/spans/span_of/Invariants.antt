use Rattle.std.proofs.Common.{◌≡◌, ◌+◌, ◌-◌, ◌≤◌, drop, length}
use Rattle.mdgfm_events.specs.Spans.{span_end, span_size}
use Rattle.mdgfm_events.proofs.spans.span_of.Given as goal

-- what was passed, and what is left
abbrev pub invariant-loop-next : goal.invariant-loop-next
invariant-loop-next l = record {
  size : l.next + span_size l.opened (drop l.next l.behind) ≡ span_size 0 l.behind;
  end : span_end l.enter l.opened (drop l.next l.behind) ≡ span_end l.enter 0 l.behind;
  few : l.opened ≤ l.next;
  room : l.next ≤ length l.behind;
}

abbrev pub decreases-loop-next : goal.decreases-loop-next
decreases-loop-next l = length l.behind - l.next
