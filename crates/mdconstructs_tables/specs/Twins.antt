-- Twins: two tables with the same rows, of which one writes nothing first and the other writes `size`, as to count its calls. If no row looks at
-- `size` or writes it, they read alike.
use Rattle.std.specs.Prelude.{◌≡◌, ℕ, ◌∷◌, List, [], Option}
use Rattle.markdown_base.specs.declared.state.State.{State}
use Rattle.markdown_tokenizer.specs.Configuration.{Choice, Configuration, Local}
use Rattle.markdown_tokenizer.specs.Reading.{EndsIn, Reading}
use Rattle.markdown_tokenizer.specs.Sight.{Sight}
use Rattle.markdown_tokenizer.specs.Text.{Given, Text}
use Rattle.mdconstructs_tables.specs.NoFurther.{Test}
use Rattle.mdconstructs_tables.specs.Rows.{Act, links, writes, Rows, row, when, StateRows, Table, table_step}

module _ {R D : Type 0} where
  -- the same but for `size`: what states share, a configuration, and a reading
  abbrev pub sized : ℕ → Local R D → Local R D
  sized n local = record local { tokenize_state = record local.tokenize_state { size = n } }

  abbrev pub with_size : ℕ → Configuration R D → Configuration R D
  with_size n k = record k { local = sized n k.local }

  abbrev pub reading_sized : ℕ → Reading R D → Reading R D
  reading_sized n r = record r { configuration = with_size n r.configuration }

  -- a test, or an index of an event, does not depend on it
  abbrev pub IsBlindTest : Test R D → Type 0
  IsBlindTest test = (g : Given) (s : Sight) (k : Configuration R D) (n : ℕ) → test g s (with_size n k) ≡ test g s k

  abbrev pub IsBlindIndex : (Configuration R D → ℕ) → Type 0
  IsBlindIndex f = (k : Configuration R D) (n : ℕ) → f (with_size n k) ≡ f k

  -- a write neither depends on it nor writes it
  abbrev pub IsBlindWrite : (Sight → Configuration R D → Local R D) → Type 0
  IsBlindWrite f = (s : Sight) (k : Configuration R D) (n : ℕ) → f s (with_size n k) ≡ sized n (f s k)

  -- all acts are so, and the given property holds
  abbrev pub ActsBlind : List (Act R D) → Type 0 → Type 0
  ActsBlind [] P = P
  ActsBlind (links previous next ∷ acts) P = IsBlindIndex previous × (IsBlindIndex next × ActsBlind acts P)
  ActsBlind (writes f ∷ acts) P = IsBlindWrite f × ActsBlind acts P
  ActsBlind (_ ∷ acts) P = ActsBlind acts P

  -- the same of rows
  abbrev pub RowsBlind : Rows R D → Type 0 → Type 0
  RowsBlind (row acts answer) P = ActsBlind acts P
  RowsBlind (when test one other) P = IsBlindTest test × RowsBlind one (RowsBlind other P)

module _ {W R D : Type 0} where
  -- and of states
  abbrev pub StatesBlind : List (StateRows W R D) → (previous current : Option W) → Type 0
  StatesBlind [] previous current = Unit {0}
  StatesBlind (state ∷ states) previous current = RowsBlind (state.rows previous current) (StatesBlind states previous current)

  -- no row of a table looks at `size` or writes it
  abbrev pub IsBlind : Table W R D → Type 0
  IsBlind table = (previous current : Option W) → StatesBlind table.states previous current

  -- the twin of a table, which writes this first
  abbrev pub twin : (Local R D → Local R D) → Table W R D → Table W R D
  twin first table = record table { first = first }

-- The law of all such tables: what a table reads its twin reads too, in as many calls, and all but `size` is the same
abbrev pub TwinsReadAlike : (W R D : Type 0) → Type 0
TwinsReadAlike W R D =
    (table : Table W R D) (first : Local R D → Local R D)
    → IsBlind table → ((local : Local R D) → table.first local ≡ local) → ((local : Local R D) → (n : ℕ) × (first local ≡ sized n local))
    → (g : Given) (text : Text) (calls : ℕ) (k : Configuration R D) (n : ℕ) (choices : List Choice) (state : State) (r : Reading R D)
    → EndsIn g (table_step table g) text calls k choices state r
    → (m : ℕ) × EndsIn g (table_step (twin first table) g) text calls (with_size n k) choices state (reading_sized m r)
