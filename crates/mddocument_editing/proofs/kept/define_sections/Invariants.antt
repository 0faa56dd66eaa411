use Rattle.mddocument_editing.proofs.Prelude.{◌≡◌, take, ◌||◌, bytes_of_sections, knows, Key, is_written}
use Rattle.mddocument_editing.proofs.kept.define_sections.Given as goal

abbrev pub invariant-loop-section : goal.invariant-loop-section
invariant-loop-section l = (key : Key) → knows l.labels key ≡ (is_written l.fn.options (bytes_of_sections (take l.section-index l.sections)) key || knows l.fn.labels key)
