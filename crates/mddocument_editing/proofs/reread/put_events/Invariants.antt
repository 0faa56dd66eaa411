use Rattle.mddocument_editing.proofs.Prelude.{◌≡◌, put_all}
use Rattle.mddocument_editing.proofs.reread.put_events.Given as goal

abbrev pub invariant-loop-other : goal.invariant-loop-other
invariant-loop-other l = l.sections.items ≡ put_all l.fn.sections.items l.yielded
