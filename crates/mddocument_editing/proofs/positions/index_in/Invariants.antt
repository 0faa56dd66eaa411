use Rattle.mddocument_editing.proofs.Prelude.{◌≡◌, ◌+◌, ◌-◌, ◌≤◌, length, drop, min, ◌==◌, find, Place, length_in, places, places_from, sizes}
use Rattle.mddocument_editing.proofs.positions.index_in.Given as goal

abbrev pub invariant-loop-index : goal.invariant-loop-index
invariant-loop-index l = record {
  found : find (λ (place : Place). place.character == min l.character (length_in l.encoding l.text)) (places_from l.encoding (record { index = l.index; character = l.passed }) (sizes (drop l.index l.text)))
      ≡ find (λ (place : Place). place.character == min l.character (length_in l.encoding l.text)) (places l.encoding l.text);
  total : l.passed + length_in l.encoding (drop l.index l.text) ≡ length_in l.encoding l.text;
  within : l.index ≤ length l.text;
  few : l.passed ≤ l.index;
}

abbrev pub decreases-loop-index : goal.decreases-loop-index
decreases-loop-index l = length l.text - l.index
