use Rattle.mddocument_editing.proofs.Prelude.{◌≡◌, ◌++◌, drop}
use Rattle.mddocument_editing.specs.Told.{own_saids}
use Rattle.mddocument_editing.proofs.told.push_own.Given as goal

abbrev pub invariant-loop-section : goal.invariant-loop-section
invariant-loop-section l = l.all.items ++ own_saids (drop l.section-index l.sections) ≡ l.fn.all.items ++ own_saids l.sections
