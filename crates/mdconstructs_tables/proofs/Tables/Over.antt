-- Rows that consume a byte and do nothing else read over it, and rows that note one read over two.
use Rattle.mdconstructs_tables.proofs.Prelude.{◌≡◌, ◌∙◌, ap, [], ◌∷◌, Option, Some, ℕ, Name, Given, Configuration, Local, with_local, Sight, class_of, named, picked, step_at, step_of, table_step, StateRows, Table}
use Rattle.markdown_base.specs.declared.state.State.TheVariants.{Next}
use Rattle.mdconstructs_tables.specs.Over.{PickedPairsOver, PickedReadOver, RowsReadOver}
use Rattle.mdconstructs_tables.specs.Rows.{Row, consume, note, row_at}

-- the row that is picked wherever a byte waits is the step there
pub picked-is-done : {W R D : Type 0} (table : Table W R D) (state : StateRows W R D) (name : Name) (byte : ℕ) (r : Row R D)
    → ((local : Local R D) → table.first local ≡ local) → named table.states name ≡ Some state
    → ((previous : Option W) (g : Given) (s : Sight) (k : Configuration R D) → s.current ≡ Some byte → picked (state.rows previous (Some (table.class byte))) g s k ≡ r)
    → (g : Given) (s : Sight) (k : Configuration R D) → s.current ≡ Some byte → table_step table g s k name ≡ step_of r s k
picked-is-done table state name byte r first there picks g s k current =
    let before = class_of table.class s.previous in
    ap (λ o. step_at table g o s (with_local k (table.first k.local))) there
    ∙ ap (λ l. step_of (row_at table.class state g s (with_local k l)) s (with_local k l)) (first k.local)
    ∙ ap (λ c. step_of (picked (state.rows before (class_of table.class c)) g s k) s k) current
    ∙ ap (λ q. step_of q s k) (picks before g s k current)

pub picked-read-over : {W R D : Type 0} → PickedReadOver W R D
picked-read-over table state name byte first there over = picked-is-done table state name byte (record { acts = consume ∷ []; answer = Next name }) first there over

-- rows without tests pick it
pub rows-read-over : {W R D : Type 0} → RowsReadOver W R D
rows-read-over table state name byte first there over =
    picked-read-over table state name byte first there (λ previous g s k current. ap (λ rows. picked rows g s k) (over previous))

-- two bytes, of which the first is noted
pub picked-pairs-over : {W R D : Type 0} → PickedPairsOver W R D
picked-pairs-over table state behind name other byte next first there there_too notes back g s k = (
  picked-is-done table state name byte (record { acts = note ∷ consume ∷ []; answer = Next other }) first there notes g s k,
  picked-is-done table behind other next (record { acts = consume ∷ []; answer = Next name }) first there_too back g s k,
)
