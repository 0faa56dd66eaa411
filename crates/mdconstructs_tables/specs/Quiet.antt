-- A test of rows: the states of a look only write, read bytes, go on among themselves, and end with Ok or Nok.
use Rattle.std.specs.Prelude.{◌≡◌, ℕ, suc, ◌*◌, ◌<◌, ◌≤◌, ◌==◌, ◌&&◌, ◌⊎◌, not, nat_lt, List, [], ◌∷◌, Bool, true, false, Option, Some, None, filter}
use Rattle.std.specs.List.{list_any}
use Rattle.markdown_base.specs.declared.event.Event.{Event}
use Rattle.markdown_base.specs.declared.event.Name.{Name as EventName}
use Rattle.markdown_base.specs.declared.state.Name.{Name}
use Rattle.markdown_base.specs.declared.state.State.{State}
use Rattle.markdown_base.specs.declared.state.State.TheVariants.{Next, Retry, Ok, Nok}
use Rattle.markdown_base.specs.Virtual.{Seat}
use Rattle.markdown_tokenizer.specs.Text.{Given, Text}
use Rattle.markdown_tokenizer.specs.Configuration.{Local}
use Rattle.mdconstructs_tables.specs.Rows.{Act, consume, writes, Row, StateRows, Table, named}
use Rattle.mdconstructs_tables.specs.RowTest.{all_rows, is_some}
use Rattle.mdconstructs_tables.specs.Looks.{Look, scan}

-- if acts only write, and read the byte at most once: whether they read it
abbrev pub quiet_acts : {R D : Type 0} → (read : Bool) → List (Act R D) → Option Bool
quiet_acts read [] = Some read
quiet_acts false (consume ∷ acts) = quiet_acts true acts
quiet_acts read (writes f ∷ acts) = quiet_acts read acts
quiet_acts _ _ = None

-- What they may answer: behind a byte a state of the look, and without one a state of the look of a lower rank; Ok or Nok
abbrev pub quiet_answer : (look : Name → Bool) → (rank : Name → ℕ) → (waits : Bool) → (here : ℕ) → Option Bool → State → Bool
quiet_answer look rank waits here (Some true) (Next name) = waits && look name
quiet_answer look rank waits here (Some false) (Retry name) = look name && nat_lt (rank name) here
quiet_answer look rank waits here (Some read) Ok = true
quiet_answer look rank waits here (Some read) Nok = true
quiet_answer look rank waits here _ _ = false

-- one of these names
abbrev pub is_one_of : List Name → Name → Bool
is_one_of names name = list_any (λ n. n.number == name.number) names

module _ {W R D : Type 0} (table : Table W R D) (names : List Name) (rank : Name → ℕ) where
  -- a row of a state is quiet, if this waits
  abbrev pub is_quiet_row : (current : Option W) → Name → Row R D → Bool
  is_quiet_row w name r = quiet_answer (is_one_of names) rank (is_some w) (rank name) (quiet_acts false r.acts) r.answer

  -- the state of a name has only quiet rows
  abbrev pub is_quiet_state : (previous current : Option W) → Name → Option (StateRows W R D) → Bool
  is_quiet_state b w name None = false
  is_quiet_state b w name (Some state) = all_rows (is_quiet_row w name) (state.rows b w)

  -- the names of the look whose states are not quiet, if this was read and this waits
  abbrev pub loud : (previous current : Option W) → List Name
  loud b w = filter (λ name. not (is_quiet_state b w name (named table.states name))) names

-- a look ends: with Ok or Nok, after at most so many calls at each place
pub record LookEnds {R D : Type 0} (bound : ℕ) (r : Look R D) : Type 0 where
  pub answer : (r.answer ≡ Ok) ⊎ (r.answer ≡ Nok)
  pub calls : r.calls ≤ bound * suc r.count

-- if no state of a look is loud, and the bound is above all ranks, the look from each of its states ends
abbrev pub QuietLooksEnd : {W R D : Type 0} → Table W R D → Type 0
QuietLooksEnd {W} {R} {D} table = (names : List Name) (rank : Name → ℕ) (bound : ℕ)
    → ((previous current : Option W) → loud table names rank previous current ≡ []) → ((name : Name) → rank name < bound)
    → (g : Given) (text : Text) (stack : List EventName) (events : List Event)
    (l : List Seat) (previous : Option ℕ) (position : ℕ) (mark : Bool) (local : Local R D) (name : Name) → is_one_of names name ≡ true
    → LookEnds bound (scan table g text stack events bound l previous position mark local name)
