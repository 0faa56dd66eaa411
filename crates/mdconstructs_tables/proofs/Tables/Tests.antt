-- Three tests of a table at once, for a machine that links and writes nothing and refuses no document: one equation for each class of what
-- waits.
use Rattle.mdconstructs_tables.proofs.Prelude.{◌≡◌, List, [], Bool, true, Option, ap, Name, Table, Reason, misfits, are_plain_states, ArePlain, HasNoMisfits, refusing}

-- the states that do not fit, whether none links or writes, and the states that may refuse the document
abbrev pub tests : {W R D : Type 0} → Table W R D → (previous current : Option W) → List (Name × Reason) × Bool × List Name
tests table previous current = (misfits table previous current, are_plain_states table.states previous current, refusing table previous current)

module _ {W R D : Type 0} (table : Table W R D) (tested : (previous current : Option W) → tests table previous current ≡ ([], true, [])) where
  pub all-fit : HasNoMisfits table
  all-fit previous current = ap (λ (t : List (Name × Reason) × Bool × List Name). t.0) (tested previous current)

  pub all-plain : ArePlain table
  all-plain previous current = ap (λ (t : List (Name × Reason) × Bool × List Name). t.1) (tested previous current)

  pub none-refuses : (previous current : Option W) → refusing table previous current ≡ []
  none-refuses previous current = ap (λ (t : List (Name × Reason) × Bool × List Name). t.2) (tested previous current)
