use Rattle.std.proofs.Common.{◌≡◌, ◌≤◌, ◌+◌, ◌-◌, length, drop}
use Rattle.mdblock_lines.specs.Breaks.{walked}
use Rattle.mdblock_lines.proofs.breaks.walk_over.Given as goal

abbrev pub invariant-loop-n : goal.invariant-loop-n
invariant-loop-n g l = record {
  same : l.w ≡ walked (drop (length l.t - l.n) l.t);
  reach : l.w.reach ≡ l.n;
  marks : l.w.marks ≤ l.w.reach;
  turns : l.turns ≤ l.fn.turns + l.n;
}
