use Rattle.mddocument_editing.proofs.Prelude.{List, []}
use Rattle.mddocument_editing.specs.Said.{said_by}
use Rattle.mddocument_editing.specs.Told.{Goes, IsToldNext, visits_of}
use Rattle.mddocument_editing.specs.declared.edit.Other.{Other}
use Rattle.mddocument_editing.proofs.told.tell_side.Given as goal

abbrev pub invariant-loop-visit : goal.invariant-loop-visit
invariant-loop-visit l =
    let tells = IsToldNext (said_by l.leading.old) (said_by l.leading.new) in
    (after : List Other) → Goes tells (visits_of l.visit-iterator) l.told.items after → Goes tells (visits_of l.fn.side) [] after
