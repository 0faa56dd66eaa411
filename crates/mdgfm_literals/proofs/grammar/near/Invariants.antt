use Rattle.std.proofs.Common.{◌≡◌, ◌-◌, ◌≤◌, drop, length}
use Rattle.mdgfm_literals.proofs.Domains.{seen}
use Rattle.mdgfm_literals.proofs.grammar.near.Given as goal

-- what was seen, and what comes
abbrev pub invariant-loop-next : goal.invariant-loop-next
invariant-loop-next l = record {
  same : seen l.before l.last l.next (drop l.next l.domain) ≡ seen 0 0 0 l.domain;
  room : l.next ≤ length l.domain;
}

abbrev pub decreases-loop-next : goal.decreases-loop-next
decreases-loop-next l = length l.domain - l.next
