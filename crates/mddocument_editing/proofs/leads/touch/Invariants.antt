use Rattle.std.proofs.Common.{◌≡◌, ℕ, List, true, drop}
use Rattle.std.specs.Prelude.{is_some}
use Rattle.mddocument_editing.specs.Said.{said_by, said_of}
use Rattle.mddocument_editing.proofs.leads.touch.Given as goal

abbrev pub invariant-loop-index : goal.invariant-loop-index
invariant-loop-index l = (label : List ℕ) → is_some (said_by l.leads label) ≡ true → said_of (drop l.index l.saids) label ≡ said_of l.saids label
