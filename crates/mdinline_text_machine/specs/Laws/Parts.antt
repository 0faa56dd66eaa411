-- What is written by each state of a table, for two lists of states together.
use Rattle.std.proofs.Common.{List, [], ◌∷◌, ◌++◌, Option, Some, None}
use Rattle.mdconstructs_tables.specs.PlainWrites.{WritePlain, RowsWritePlain, StatesWritePlain}
use Rattle.mdconstructs_tables.specs.Rows.{Act, enters, exit, consume, links, writes, choose, note, exit_noted, enter_noted, Rows, row, when, StateRows}

module _ {R D : Type 0} (P Q : Type 0) (f : P → Q) where
  acts-then : (acts : List (Act R D)) → WritePlain acts P → WritePlain acts Q
  acts-then [] h = f h
  acts-then (enters name None ∷ acts) h = acts-then acts h
  acts-then (enters name (Some link) ∷ acts) h = absurd h
  acts-then (links previous next ∷ acts) h = absurd h
  acts-then (writes w ∷ acts) h = (h.0, acts-then acts h.1)
  acts-then (exit name ∷ acts) h = acts-then acts h
  acts-then (consume ∷ acts) h = acts-then acts h
  acts-then (choose kind ok nok ∷ acts) h = acts-then acts h
  acts-then (note ∷ acts) h = acts-then acts h
  acts-then (exit_noted name ∷ acts) h = acts-then acts h
  acts-then (enter_noted name ∷ acts) h = acts-then acts h

-- what holds behind the writes of rows may be weakened
rows-then : {R D : Type 0} (P Q : Type 0) → (P → Q) → (rows : Rows R D) → RowsWritePlain rows P → RowsWritePlain rows Q
rows-then P Q f (row acts answer) h = acts-then P Q f acts h
rows-then P Q f (when test one other) h = rows-then (RowsWritePlain other P) (RowsWritePlain other Q) (rows-then P Q f other) one h

-- each writes what is plain
pub writes-append : {W R D : Type 0} (previous current : Option W) (xs ys : List (StateRows W R D)) → StatesWritePlain xs previous current → StatesWritePlain ys previous current
    → StatesWritePlain (xs ++ ys) previous current
writes-append b w [] ys h k = k
writes-append b w (x ∷ xs) ys h k =
    rows-then (StatesWritePlain xs b w) (StatesWritePlain (xs ++ ys) b w) (λ h. writes-append b w xs ys h k) (x.rows b w) h
