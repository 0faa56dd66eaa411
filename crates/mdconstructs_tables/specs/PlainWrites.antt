-- Tables without links whose writes leave nothing to resolve.
use Rattle.std.specs.Prelude.{List, [], ◌∷◌, Option, Some, None}
use Rattle.markdown_tokenizer.specs.Configuration.{Configuration}
use Rattle.mdconstructs_tables.specs.Rows.{Act, enters, exit, consume, links, writes, choose, note, exit_noted, enter_noted, Rows, row, when, StateRows, Table}
use Rattle.mdconstructs_tables.specs.PlainTables.{IsPlainWrite, IsPlainEverywhere}

module _ {R D : Type 0} where
  -- no act links, each write is plain, and the given property holds
  abbrev pub WritePlain : List (Act R D) → Type 0 → Type 0
  WritePlain [] P = P
  WritePlain (enters name None ∷ acts) P = WritePlain acts P
  WritePlain (enters name (Some link) ∷ acts) P = ⊥
  WritePlain (links previous next ∷ acts) P = ⊥
  WritePlain (writes f ∷ acts) P = IsPlainEverywhere f × WritePlain acts P
  WritePlain (exit name ∷ acts) P = WritePlain acts P
  WritePlain (consume ∷ acts) P = WritePlain acts P
  WritePlain (choose kind ok nok ∷ acts) P = WritePlain acts P
  WritePlain (note ∷ acts) P = WritePlain acts P
  WritePlain (exit_noted name ∷ acts) P = WritePlain acts P
  WritePlain (enter_noted name ∷ acts) P = WritePlain acts P

  abbrev pub RowsWritePlain : Rows R D → Type 0 → Type 0
  RowsWritePlain (row acts answer) P = WritePlain acts P
  RowsWritePlain (when test one other) P = RowsWritePlain one (RowsWritePlain other P)

module _ {W R D : Type 0} where
  abbrev pub StatesWritePlain : List (StateRows W R D) → (previous current : Option W) → Type 0
  StatesWritePlain [] previous current = Unit {0}
  StatesWritePlain (state ∷ states) previous current = RowsWritePlain (state.rows previous current) (StatesWritePlain states previous current)

  -- no state links, all writes are plain, and so is what each call writes first
  pub record WritesPlain (table : Table W R D) : Type 0 where
    pub first : IsPlainWrite (λ (k : Configuration R D). table.first k.local)
    pub rows : (previous current : Option W) → StatesWritePlain table.states previous current
