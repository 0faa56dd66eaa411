use Rattle.std.proofs.Common.{◌≡◌, ◌≤◌, ◌+◌, ◌-◌, length, drop}
use Rattle.std.specs.List.{prefix_len}
use Rattle.std.specs.Prelude.{not}
use Rattle.mdhtml_markup.specs.SafeHtml.{is_mark}
use Rattle.mdhtml_markup.proofs.escape.plain_len.Given as goal

-- what was passed, and what is left
abbrev pub invariant-loop-next : goal.invariant-loop-next
invariant-loop-next l = record {
  same : l.next + prefix_len (λ b. not (is_mark b)) (drop l.next l.text) ≡ prefix_len (λ b. not (is_mark b)) l.text;
  room : l.next ≤ length l.text;
}

abbrev pub decreases-loop-next : goal.decreases-loop-next
decreases-loop-next l = length l.text - l.next
