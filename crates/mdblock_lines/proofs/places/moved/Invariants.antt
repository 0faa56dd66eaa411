use Rattle.std.proofs.Common.{◌≡◌, ◌≤◌, ◌+◌, ◌<◌}
use Rattle.mdblock_lines.specs.Lines.{place_after}
use Rattle.mdblock_lines.proofs.places.moved.Given as goal

abbrev pub invariant-loop-n : goal.invariant-loop-n
invariant-loop-n g l = record {
  here : l.p ≡ place_after l.fn.tab l.bytes l.fn.place l.n;
  first : l.p.vs < l.p.column;
  column : l.p.column ≡ l.fn.place.column + l.n;
  turns : l.turns ≤ l.fn.turns + l.n;
}
