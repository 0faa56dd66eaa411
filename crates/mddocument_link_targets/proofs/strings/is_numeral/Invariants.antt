use Rattle.std.proofs.Common.{◌≡◌, ◌-◌, ◌≤◌, drop, length}
use Rattle.std.specs.Char.{digit_value}
use Rattle.std.specs.List.{list_all}
use Rattle.std.specs.Prelude.{nat_lt}
use Rattle.mddocument_link_targets.proofs.strings.is_numeral.Given as goal

abbrev pub invariant-loop-next : goal.invariant-loop-next
invariant-loop-next l = record {
  same : list_all (λ d. nat_lt (digit_value d) l.base) (drop l.next l.digits) ≡ list_all (λ d. nat_lt (digit_value d) l.base) l.digits;
  room : l.next ≤ length l.digits;
}

abbrev pub decreases-loop-next : goal.decreases-loop-next
decreases-loop-next l = length l.digits - l.next
