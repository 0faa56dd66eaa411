use Rattle.mddocument_editing.proofs.Prelude.{◌≡◌, ◌-◌, ◌++◌, length, drop, items_of, bytes_of_sections}
use Rattle.mddocument_editing.proofs.trim.stay_behind.Given as goal

abbrev pub invariant-loop-count : goal.invariant-loop-count
invariant-loop-count l = drop (l.end - l.count) (bytes_of_sections l.sections) ≡ drop (length (items_of l.parts) - l.count) (items_of l.parts) ++ drop l.end (bytes_of_sections l.sections)
