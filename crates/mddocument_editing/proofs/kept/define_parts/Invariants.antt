use Rattle.mddocument_editing.proofs.Prelude.{◌≡◌, take, ◌||◌, bytes_of_parts, knows, Key, is_written}
use Rattle.mddocument_editing.proofs.kept.define_parts.Given as goal

abbrev pub invariant-loop-part : goal.invariant-loop-part
invariant-loop-part l = (key : Key) → knows l.labels key ≡ (is_written l.fn.options (bytes_of_parts (take l.part-index l.parts)) key || knows l.fn.labels key)
