use Rattle.markdown_tokenizer.proofs.Prelude.{◌≡◌, ◌&&◌, ◌||◌, not, list_all, length, rest_at, IsPlace, Seat, stands_before, denotes_same}
use Rattle.markdown_tokenizer.proofs.ranges.denote_same.Given as goal

-- what is left decides whether each of the two places is up to the other
abbrev pub invariant-loop-byte : goal.invariant-loop-byte
invariant-loop-byte l = record {
  place : IsPlace l.t l.bytes l.after_previous;
  same : (list_all (λ (s : Seat). not (stands_before s.point l.first) || stands_before s.point l.second) (rest_at l.t l.bytes l.after_previous)
      && list_all (λ (s : Seat). not (stands_before s.point l.second) || stands_before s.point l.first) (rest_at l.t l.bytes l.after_previous)) ≡ denotes_same l.t l.bytes l.first l.second;
}

abbrev pub decreases-loop-byte : goal.decreases-loop-byte
decreases-loop-byte l = length (rest_at l.t l.bytes l.after_previous)
