use Rattle.mddocument_editing.proofs.Prelude.{◌≡◌, ◌++◌, map, take, moved_by}
use Rattle.mddocument_editing.proofs.moved.push_section.Given as goal

abbrev pub invariant-loop-index : goal.invariant-loop-index
invariant-loop-index l = l.events.items ≡ l.initial.events.items ++ map (moved_by l.front) (take l.index l.section.events)
