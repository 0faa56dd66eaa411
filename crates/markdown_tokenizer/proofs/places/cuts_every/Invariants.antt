use Rattle.markdown_tokenizer.proofs.Prelude.{◌≡◌, ◌+◌, ℕ, Seat, ◌++◌, length, map, filter, enumerate_from, virtual, rest_at, IsPlace, place_of, is_cut, cuts_every}
use Rattle.markdown_tokenizer.proofs.places.cuts_every.Given as goal

-- with the cuts among what is left, the cuts so far are all of them
abbrev pub invariant-loop-byte : goal.invariant-loop-byte
invariant-loop-byte l = record {
  place : IsPlace l.t l.bytes l.after_previous;
  counted : l.number + length (rest_at l.t l.bytes l.after_previous) ≡ length (virtual l.t l.bytes);
  made : l.cuts.items ++ map (λ (x : ℕ × Seat). place_of x.1) (filter (λ (x : ℕ × Seat). is_cut l.n x.0) (enumerate_from l.number (rest_at l.t l.bytes l.after_previous))) ≡ cuts_every l.t l.bytes l.n;
}

abbrev pub decreases-loop-byte : goal.decreases-loop-byte
decreases-loop-byte l = length (rest_at l.t l.bytes l.after_previous)
