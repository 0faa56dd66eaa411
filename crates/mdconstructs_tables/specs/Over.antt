-- Bytes that a state of a table reads over.
use Rattle.std.specs.Prelude.{◌≡◌, ℕ, [], ◌∷◌, Option, Some}
use Rattle.markdown_base.specs.declared.state.Name.{Name}
use Rattle.markdown_base.specs.declared.state.State.TheVariants.{Next}
use Rattle.markdown_tokenizer.specs.Text.{Given}
use Rattle.markdown_tokenizer.specs.Configuration.{Configuration, Local}
use Rattle.markdown_tokenizer.specs.Sight.{Sight}
use Rattle.markdown_tokenizer.specs.Over.{ReadsOver, step_noted, step_over}
use Rattle.mdconstructs_tables.specs.RowInvariant.{table_rules}
use Rattle.mdconstructs_tables.specs.Rows.{Table, StateRows, row, consume, note, named, picked, table_step}

-- a call writes nothing before its rows do
abbrev pub unchanged : {R D : Type 0} → Local R D → Local R D
unchanged local = local

-- the rows of a state at a class of bytes consume the byte and do nothing else, whatever the previous byte was
abbrev pub IsOverAt : {W R D : Type 0} → StateRows W R D → Name → W → Type 0
IsOverAt {W} state name w = (previous : Option W) → state.rows previous (Some w) ≡ row (consume ∷ []) (Next name)

-- The law of all tables: wherever such a byte waits, the step of the table is the one that reads over it
abbrev pub RowsReadOver : (W R D : Type 0) → Type 0
RowsReadOver W R D =
    (table : Table W R D) (state : StateRows W R D) (name : Name) (byte : ℕ)
    → ((local : Local R D) → table.first local ≡ local) → named table.states name ≡ Some state → IsOverAt state name (table.class byte)
    → (g : Given) (s : Sight) (k : Configuration R D) → s.current ≡ Some byte → table_step table g s k name ≡ step_over k name

-- The rows of a state pick that row wherever this byte waits, by their tests, and whatever the previous byte was
abbrev pub PicksOver : {W R D : Type 0} → StateRows W R D → Name → (class : ℕ → W) → ℕ → Type 0
PicksOver {W} {R} {D} state name class byte =
    (previous : Option W) (g : Given) (s : Sight) (k : Configuration R D) → s.current ≡ Some byte
    → picked (state.rows previous (Some (class byte))) g s k ≡ record { acts = consume ∷ []; answer = Next name }

-- then the step of the table is the same
abbrev pub PickedReadOver : (W R D : Type 0) → Type 0
PickedReadOver W R D =
    (table : Table W R D) (state : StateRows W R D) (name : Name) (byte : ℕ)
    → ((local : Local R D) → table.first local ≡ local) → named table.states name ≡ Some state → PicksOver state name table.class byte
    → (g : Given) (s : Sight) (k : Configuration R D) → s.current ≡ Some byte → table_step table g s k name ≡ step_over k name

-- The rows of a state pick the row that notes the place of the byte, consumes it, and goes on with another state, in the same way
abbrev pub PicksNoted : {W R D : Type 0} → StateRows W R D → Name → (class : ℕ → W) → ℕ → Type 0
PicksNoted {W} {R} {D} state other class byte =
    (previous : Option W) (g : Given) (s : Sight) (k : Configuration R D) → s.current ≡ Some byte
    → picked (state.rows previous (Some (class byte))) g s k ≡ record { acts = note ∷ consume ∷ []; answer = Next other }

-- The law of two bytes: if the rows of a state pick that row at a byte, and those of the other pick at the next byte the row that consumes it and
-- goes back, then the steps of the table there are those by which the first is noted and both are read over
abbrev pub PickedPairsOver : (W R D : Type 0) → Type 0
PickedPairsOver W R D =
    (table : Table W R D) (state behind : StateRows W R D) (name other : Name) (byte next : ℕ)
    → ((local : Local R D) → table.first local ≡ local) → named table.states name ≡ Some state → named table.states other ≡ Some behind
    → PicksNoted state other table.class byte → PicksOver behind name table.class next
    → (g : Given) (s : Sight) (k : Configuration R D)
    → (s.current ≡ Some byte → table_step table g s k name ≡ step_noted s k other) × (s.current ≡ Some next → table_step table g s k other ≡ step_over k name)

-- so the rules of a table read over it
abbrev pub TableReadsOver : (W R D : Type 0) → Type 0
TableReadsOver W R D =
    (table : Table W R D) (state : StateRows W R D) (name : Name) (byte : ℕ)
    → ((local : Local R D) → table.first local ≡ local) → named table.states name ≡ Some state → IsOverAt state name (table.class byte)
    → (g : Given) → ReadsOver g (table_rules table g) name byte
