use Rattle.mddocument_editing.proofs.Prelude.{take, part_events, AreReread, knows}
use Rattle.mddocument_editing.proofs.put.read_again.Given as goal

abbrev pub invariant-loop-index : goal.invariant-loop-index
invariant-loop-index l = AreReread (part_events l.options (knows l.known)) l.first (take l.index l.sections) l.others.items
