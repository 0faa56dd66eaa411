use Rattle.std.proofs.Common.{◌≡◌, ◌≤◌, ◌<◌, ◌+◌, ◌-◌, ℕ, List, length, drop, get_or}
use Rattle.mdblock_containers.specs.declared.ahead.Ahead.{Ahead}
use Rattle.mdblock_containers.specs.Rows.{Row}
use Rattle.mdblock_containers.specs.Ahead.{AreRows, ahead_of}
use Rattle.mdblock_containers.proofs.ahead.aheads_of.Given as goal

abbrev pub invariant-loop-n : goal.invariant-loop-n
invariant-loop-n g l = record {
  len : length l.aheads.items ≡ l.n;
  few : l.ahead.further ≤ l.n;
  turns : l.turns ≤ l.fn.turns + l.n;
  here : (all : List Row) → AreRows l.rows all → l.ahead ≡ ahead_of (drop (length l.rows - l.n) all);
  before : (all : List Row) → AreRows l.rows all → (d : Ahead) → (k : ℕ) → k < l.n → get_or l.aheads.items k d ≡ ahead_of (drop (length l.rows - k) all);
}
