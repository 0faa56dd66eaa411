use Rattle.std.proofs.Common.{◌≡◌, ◌-◌, ◌≤◌, drop, length}
use Rattle.mdgfm_literals.specs.Signs.{has_sign}
use Rattle.mdgfm_literals.proofs.signs.has_sign.Given as goal

-- no sign was passed
abbrev pub invariant-loop-next : goal.invariant-loop-next
invariant-loop-next l = record {
  same : has_sign (drop l.next l.text) ≡ has_sign l.text;
  room : l.next ≤ length l.text;
}

abbrev pub decreases-loop-next : goal.decreases-loop-next
decreases-loop-next l = length l.text - l.next
