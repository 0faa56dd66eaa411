use Rattle.markdown_edits.proofs.Prelude.{◌≡◌, ℕ, ◌-◌, ◌≤◌, ◌<◌, false, length, get_or, max, Event, is_wanted}
use Rattle.markdown_edits.proofs.skip.to.Given as goal

abbrev pub invariant-loop-first : goal.invariant-loop-first
invariant-loop-first l = record {
  order : l.index ≤ l.first;
  within : l.first ≤ max l.index (length l.events);
  passed : (k : ℕ) (d : Event) → l.index ≤ k → k < l.first → is_wanted l.names (get_or l.events k d).name ≡ false;
}

abbrev pub decreases-loop-first : goal.decreases-loop-first
decreases-loop-first l = length l.initial.events - l.first
