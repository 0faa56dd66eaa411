use Rattle.mddocument_editing.proofs.Prelude.{List}
use Rattle.mddocument_editing.specs.Told.{Goes, IsAgain, visits_of}
use Rattle.mddocument_editing.specs.declared.said.Said.{Said}
use Rattle.mddocument_editing.proofs.told.push_rereads.Given as goal

abbrev pub invariant-loop-visit : goal.invariant-loop-visit
invariant-loop-visit l = (after : List Said) → Goes IsAgain (visits_of l.visit-iterator) l.all.items after → Goes IsAgain (visits_of l.fn.side) l.fn.all.items after
