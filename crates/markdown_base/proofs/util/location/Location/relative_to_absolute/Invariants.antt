use Rattle.markdown_base.proofs.Prelude.{◌≡◌, ◌≤◌, ℕ, drop, nat_le, take_while, None, last_or, ForSome}
use Rattle.markdown_base.proofs.util.location.Location.relative_to_absolute.Given as goal

-- going on over the rest gives the result, and the last one that passed begins at or before the offset
abbrev pub invariant-loop-stop : goal.invariant-loop-stop
invariant-loop-stop l = record {
  left : last_or l.last (take_while (λ (stop : ℕ × ℕ). nat_le stop.0 l.relative) (drop l.stop-index l.stops)) ≡ last_or None (take_while (λ (stop : ℕ × ℕ). nat_le stop.0 l.relative) l.stops);
  before : ForSome l.last (λ stop. stop.0 ≤ l.relative);
}
