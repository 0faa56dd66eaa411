use Rattle.std.specs.Prelude.{◌-◌, length}
use Rattle.mdinline_link_strings.proofs.Outside.{Upto}
use Rattle.mdinline_link_strings.proofs.strings.plain_events.Given as goal

-- the events so far stay as they are
abbrev pub invariant-loop-next : goal.invariant-loop-next
invariant-loop-next g l = Upto l.tab l.bytes l.first l.events l.fn.turns l.next l.inside l.turns

abbrev pub decreases-loop-next : goal.decreases-loop-next
decreases-loop-next g l = length l.events - l.next
