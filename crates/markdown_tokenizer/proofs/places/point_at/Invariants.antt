use Rattle.markdown_tokenizer.proofs.Prelude.{◌≡◌, ◌==◌, ◌&&◌, [], ◌∷◌, ◌++◌, length, find, flat_map, Point, Seat, rest_at, IsPlace, shown, end_after, point_at}
use Rattle.markdown_tokenizer.proofs.places.point_at.Given as goal

-- what is looked for is among what is left
abbrev pub invariant-loop-byte : goal.invariant-loop-byte
invariant-loop-byte l = record {
  place : IsPlace l.t l.bytes l.after_previous;
  looked : find (λ (p : Point). (p.index == l.place.0) && (p.vs == l.place.1)) (flat_map (λ (s : Seat). shown l.bytes s.point ∷ s.point ∷ []) (rest_at l.t l.bytes l.after_previous)
      ++ end_after l.after_previous (rest_at l.t l.bytes l.after_previous) ∷ []) ≡ point_at l.t l.bytes l.place;
}

abbrev pub decreases-loop-byte : goal.decreases-loop-byte
decreases-loop-byte l = length (rest_at l.t l.bytes l.after_previous)
