use Rattle.mddocument_editing.specs.Said.{said_by}
use Rattle.mddocument_editing.specs.Told.{ArePushed, Goes, visits_of}
use Rattle.mddocument_editing.specs.declared.told.Saids.{Saids}
use Rattle.mddocument_editing.proofs.told.push_nears.Given as goal

abbrev pub invariant-loop-visit : goal.invariant-loop-visit
invariant-loop-visit l = (after : Saids) → Goes (ArePushed (said_by l.touched)) (visits_of l.visit-iterator) l.near after → Goes (ArePushed (said_by l.touched)) (visits_of l.fn.side) l.fn.near after
