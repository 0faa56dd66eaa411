use Rattle.std.proofs.Common.{◌≡◌, ◌≤◌, ◌+◌, ◌-◌, length, drop}
use Rattle.std.specs.List.{prefix_len}
use Rattle.std.specs.Prelude.{◌==◌, not}
use Rattle.mdhtml_markup.proofs.tag_filter.before_tag.Given as goal

-- what was passed, and what is left
abbrev pub invariant-loop-next : goal.invariant-loop-next
invariant-loop-next l = record {
  same : l.next + prefix_len (λ b. not (b == 60)) (drop l.next l.html) ≡ prefix_len (λ b. not (b == 60)) l.html;
  room : l.next ≤ length l.html;
}

abbrev pub decreases-loop-next : goal.decreases-loop-next
decreases-loop-next l = length l.html - l.next
