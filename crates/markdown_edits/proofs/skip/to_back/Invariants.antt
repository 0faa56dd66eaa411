use Rattle.markdown_edits.proofs.Prelude.{◌≡◌, ℕ, ◌≤◌, ◌<◌, false, true, length, get_or, Event, is_wanted}
use Rattle.markdown_edits.proofs.skip.to_back.Given as goal

abbrev pub invariant-loop-last : goal.invariant-loop-last
invariant-loop-last l = record {
  order : l.last ≤ l.index;
  past : length l.events ≤ l.index → l.last ≡ l.index;
  ahead : l.index < length l.events → (k : ℕ) × (k ≤ l.last) × ((d : Event) → is_wanted l.names (get_or l.events k d).name ≡ true);
  passed : (k : ℕ) (d : Event) → l.last < k → k ≤ l.index → is_wanted l.names (get_or l.events k d).name ≡ false;
}

abbrev pub decreases-loop-last : goal.decreases-loop-last
decreases-loop-last l = l.last
