use Rattle.std.specs.Prelude.{◌+◌, ◌*◌, ◌-◌, ◌≤◌, length}
use Rattle.mdinline_emphasis.specs.Runs.{runs_in}
use Rattle.mdinline_links.proofs.Reached.{start_of}
use Rattle.mdinline_links.specs.Costs.{pay, to_pay}
use Rattle.mdinline_links.specs.Laid.{IsReached}
use Rattle.mdinline_links.specs.Linked.{outermost_spans}
use Rattle.mdinline_links.proofs.brackets.pieces_of.Given as goal

-- the fold over the spans so far has what there is
abbrev pub invariant-loop-next : goal.invariant-loop-next
invariant-loop-next g l = (l.next ≤ length l.events) × IsReached l.events (start_of (runs_in l.one_tilde l.bytes l.events)) (outermost_spans l.events) l.next l.all l.left.items
    × (l.turns + to_pay l.all l.left.items ≤ l.fn.turns + (length l.events + pay (runs_in l.one_tilde l.bytes l.events)) + 2 * l.next)

abbrev pub decreases-loop-next : goal.decreases-loop-next
decreases-loop-next g l = length l.events - l.next
