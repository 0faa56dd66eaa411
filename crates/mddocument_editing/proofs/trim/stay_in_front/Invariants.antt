use Rattle.mddocument_editing.proofs.Prelude.{◌≡◌, ◌+◌, ◌++◌, take, items_of, bytes_of_sections}
use Rattle.mddocument_editing.proofs.trim.stay_in_front.Given as goal

abbrev pub invariant-loop-count : goal.invariant-loop-count
invariant-loop-count l = take (l.from + l.count) (bytes_of_sections l.sections) ≡ take l.from (bytes_of_sections l.sections) ++ take l.count (items_of l.parts)
