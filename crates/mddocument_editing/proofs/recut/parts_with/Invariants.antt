use Rattle.mddocument_editing.proofs.Prelude.{◌≡◌, ◌+◌, length, take, document_of, items_of}
use Rattle.mddocument_editing.proofs.recut.parts_with.Given as goal

abbrev pub invariant-loop-count : goal.invariant-loop-count
invariant-loop-count l = length (document_of (take l.count (items_of l.parts))) + l.left ≡ l.size
