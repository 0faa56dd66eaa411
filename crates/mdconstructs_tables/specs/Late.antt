-- Tables whose choices end with Ok late: states that are called where the last choice was made end it with Ok only behind that place. What
-- an attempt goes on with costs less there.
use Rattle.std.specs.Prelude.{◌≡◌, ◌&&◌, ◌||◌, not, List, [], ◌∷◌, Bool, true, Option, filter, map}
use Rattle.markdown_base.specs.declared.state.Name.{Name}
use Rattle.markdown_base.specs.declared.state.State.{State}
use Rattle.markdown_base.specs.declared.state.State.TheVariants.{Next}
use Rattle.markdown_tokenizer.specs.declared.waiting.AttemptKind.TheVariants.{Attempt}
use Rattle.markdown_tokenizer.specs.Text.{Given, Text}
use Rattle.markdown_tokenizer.specs.Configuration.{Configuration, Choice}
use Rattle.markdown_tokenizer.specs.Rules.{Rules}
use Rattle.mdconstructs_tables.specs.Rows.{Act, choose, Row, StateRows, Table}
use Rattle.mdconstructs_tables.specs.Fitting.{IsFitBy}
use Rattle.mdconstructs_tables.specs.RowTest.{all_rows, is_behind}
use Rattle.mdconstructs_tables.specs.RowInvariant.{table_holds, table_price, table_rules}

-- what a choice goes on with costs less the more was read, if its state does
abbrev pub falls_on : (falling : Name → Bool) → State → Bool
falls_on falling (Next name) = falling name
falls_on falling _ = true

-- an attempt goes on after Ok with what costs less later
abbrev pub FallsLater : (falling : Name → Bool) → Choice → Type 0
FallsLater falling c = c.kind ≡ Attempt → falls_on falling c.ok ≡ true

-- each choice that waits does, if it is an attempt
abbrev pub AllFallLater : (falling : Name → Bool) → List Choice → Type 0
AllFallLater falling [] = Unit {0}
AllFallLater falling (c ∷ cs) = FallsLater falling c × AllFallLater falling cs

module _ {R D : Type 0} where
  -- the attempts that are made go on after Ok with what costs less later
  abbrev pub are_falling : (falling : Name → Bool) → List (Act R D) → Bool
  are_falling falling [] = true
  are_falling falling (choose Attempt ok nok ∷ acts) = falls_on falling ok && are_falling falling acts
  are_falling falling (_ ∷ acts) = are_falling falling acts

  -- a row of an early state ends choices with Ok only behind its place; and attempts go on with what costs less later
  abbrev pub is_late_row : {W : Type 0} → (early : Name → Option W → Bool) → (falling : Name → Bool) → Option W → Name → Row R D → Bool
  is_late_row early falling w name r = are_falling falling r.acts && (not (early name w) || is_behind early w r.acts r.answer)

module _ {W R D : Type 0} (table : Table W R D) (early : Name → Option W → Bool) (falling : Name → Bool) where
  -- the same of each row of a state
  abbrev pub is_late_state : (previous current : Option W) → StateRows W R D → Bool
  is_late_state b w state = all_rows (is_late_row early falling w state.name) (state.rows b w)

  -- the names of the states with other rows
  abbrev pub hasty : (previous current : Option W) → List Name
  hasty b w = map (λ (state : StateRows W R D). state.name) (filter (λ state. not (is_late_state b w state)) table.states)

  -- the invariant of a table; and what the attempts that wait go on with costs less later
  abbrev pub late_holds : Given → Text → Configuration R D → List Choice → State → Type 0
  late_holds g text k choices state = table_holds table g text k choices state × AllFallLater falling choices

  -- the rules of a table whose early states end choices late
  abbrev pub late_rules : Given → Rules R D
  late_rules g = record (table_rules table g) { holds = late_holds g; cost = table_price table early g }

-- A table fits, and its early states end choices with Ok late
pub record IsLate {W R D : Type 0} (table : Table W R D) (early : Name → Option W → Bool) (falling : Name → Bool) : Type 0 where
  pub fit : IsFitBy table early falling
  pub late : (previous current : Option W) → hasty table early falling previous current ≡ []
