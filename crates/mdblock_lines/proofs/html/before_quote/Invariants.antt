use Rattle.std.proofs.Common.{length, ◌-◌, ◌+◌, ◌≡◌, ◌≤◌, drop}
use Rattle.std.specs.Prelude.{◌==◌, not}
use Rattle.std.specs.List.{prefix_len}
use Rattle.mdblock_lines.proofs.html.before_quote.Given as goal

-- what was passed, and what is left before the quote
abbrev pub invariant-loop-next : goal.invariant-loop-next
invariant-loop-next g l = (l.next + prefix_len (λ b. not (b == l.quote)) (drop l.next l.t) ≡ prefix_len (λ b. not (b == l.quote)) l.t) × (l.next ≤ length l.t) × (l.turns ≤ l.fn.turns + l.next)

abbrev pub decreases-loop-next : goal.decreases-loop-next
decreases-loop-next g l = length l.t - l.next
