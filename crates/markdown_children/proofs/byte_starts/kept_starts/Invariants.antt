use Rattle.markdown_children.proofs.Prelude.{◌≡◌, ◌+◌, ◌*◌, ◌≤◌, vec_len, vec_capacity, byte_start, eighth_starts}
use Rattle.markdown_children.proofs.byte_starts.kept_starts.Given as goal

abbrev pub invariant-loop-k : goal.invariant-loop-k
invariant-loop-k l = record {
  starts : l.starts.items ≡ eighth_starts l.t l.bytes (l.k + 1);
  start : l.start ≡ byte_start l.t l.bytes (8 * l.k);
  so_far : vec_len l.starts ≡ l.k + 1;
  room : l.count + 1 ≤ vec_capacity l.starts;
}
