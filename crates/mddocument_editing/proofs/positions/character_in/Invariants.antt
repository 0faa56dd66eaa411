use Rattle.mddocument_editing.proofs.Prelude.{◌≡◌, ◌-◌, ◌≤◌, length, drop, ◌==◌, find, Place, places, places_from, sizes}
use Rattle.mddocument_editing.proofs.positions.character_in.Given as goal

abbrev pub invariant-loop-passed : goal.invariant-loop-passed
invariant-loop-passed l = record {
  found : find (λ (place : Place). place.index == l.place) (places_from l.encoding (record { index = l.passed; character = l.character }) (sizes (drop l.passed l.text)))
      ≡ find (λ (place : Place). place.index == l.place) (places l.encoding l.text);
  room : l.place ≤ length l.text;
  within : l.passed ≤ length l.text;
  few : l.character ≤ l.passed;
}

abbrev pub decreases-loop-passed : goal.decreases-loop-passed
decreases-loop-passed l = l.place - l.passed
