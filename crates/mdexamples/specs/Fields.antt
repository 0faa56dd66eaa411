-- The machine of fields: bytes that the machine has divide a text. Each of them is a divider, and each run of other bytes is data.
use Rattle.std.specs.Prelude.{ℕ, ◌==◌, ◌∷◌, List, [], Bool, false, Option, Some, None}
use Rattle.std.specs.List.{list_any}
use Rattle.markdown.specs.declared.event.Name.TheVariants.{Data, GfmTableCellDivider}
use Rattle.markdown.specs.StateConstants.Name.{TextStart, DataInside}
use Rattle.markdown.specs.declared.state.State.TheVariants.{Next, Retry, Ok}
use Rattle.markdown.specs.Text.{Given}
use Rattle.markdown.specs.Configuration.{Configuration}
use Rattle.markdown.specs.Sight.{Sight}
use Rattle.markdown.specs.Rules.{Rules}
use Rattle.markdown.specs.Plain as shape
use Rattle.mdconstructs.specs.Rows.{enter, exit, consume, Rows, row, when, StateRows, calls, state, Table}
use Rattle.mdconstructs.specs.RowInvariant.{table_rules}
use Rattle.mdconstructs.specs.Tables.{counts}

-- All bytes are of one class: which of them divide is a test, by what the machine has
abbrev pub any_byte : ℕ → Unit {0}
any_byte byte = tt

-- this is a byte, and one of these
abbrev pub is_one_of : List ℕ → Option ℕ → Bool
is_one_of dividers None = false
is_one_of dividers (Some byte) = list_any (λ divider. divider == byte) dividers

-- the byte that waits is one of these
abbrev pub divides : {R D : Type 0} → List ℕ → Given → Sight → Configuration R D → Bool
divides dividers g s k = is_one_of dividers s.current

-- a divider, and then a field or a divider
abbrev pub reads_divider : {R D : Type 0} → Rows R D
reads_divider = row (enter GfmTableCellDivider ∷ consume ∷ exit GfmTableCellDivider ∷ []) (Next TextStart)

-- before a field
abbrev pub text_start_rows : {R D : Type 0} → List ℕ → (previous current : Option (Unit {0})) → Rows R D
text_start_rows dividers _ None = row [] Ok
text_start_rows dividers _ (Some _) = when (divides dividers) reads_divider (row (enter Data ∷ consume ∷ []) (Next DataInside))

-- its state: no span is open
abbrev pub text_start : {R D : Type 0} → List ℕ → StateRows (Unit {0}) R D
text_start dividers = state TextStart (text_start_rows dividers) [] (calls 2 1)

-- in a field
abbrev pub data_inside_rows : {R D : Type 0} → List ℕ → (previous current : Option (Unit {0})) → Rows R D
data_inside_rows dividers _ None = row (exit Data ∷ []) Ok
data_inside_rows dividers _ (Some _) = when (divides dividers) (row (exit Data ∷ []) (Retry TextStart)) (row (consume ∷ []) (Next DataInside))

-- its state: the field is open
abbrev pub data_inside : {R D : Type 0} → List ℕ → StateRows (Unit {0}) R D
data_inside dividers = state DataInside (data_inside_rows dividers) (Data ∷ []) (calls 2 1)

-- the table of a machine that has these bytes
abbrev pub fields : List ℕ → Table (Unit {0}) Unit Unit
fields dividers = record { class = any_byte; first = counts; states = text_start dividers ∷ data_inside dividers ∷ []; starts = TextStart ∷ [] }

-- its rules: it registers no resolver, makes no edit, and links nothing
abbrev pub fields_rules : List ℕ → Given → Rules Unit Unit
fields_rules dividers g = shape.plain (table_rules (fields dividers) g)
