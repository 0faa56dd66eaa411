-- The test of a table, for the author of a machine: which of its states do not fit, and why.
use Rattle.std.specs.Prelude.{◌&&◌, ◌||◌, not, List, [], ◌∷◌, ◌++◌, Bool, true, cond, Option, Some, None}
use Rattle.std.specs.List.{flat_map}
use Rattle.markdown_base.specs.declared.event.Name.{Name as EventName}
use Rattle.markdown_base.specs.declared.state.Name.{Name}
use Rattle.markdown_base.specs.declared.state.State.{State}
use Rattle.markdown_base.specs.declared.state.State.TheVariants.{Next, Retry, Ok, Nok, Error}
use Rattle.mdconstructs_tables.specs.Rows.{Row, StateRows, Table, named}
use Rattle.mdconstructs_tables.specs.RowTest.{Shape, same_names, needs_choice, needs_failing, is_some, is_end, all_rows, start_shape, after_all, allows_all, fits_choices, fits_row, fits_calls, is_called, may_start}

-- Why a state does not fit, or why no reading may start with a name
pub data Reason : Type 0 where
  -- an act is not allowed at its position: for example an exit of a span that is not the innermost, or a second consume
  act : Reason
  -- the row goes on with a state that has other spans than are open
  spans : Reason
  -- a choice that is made cannot go on at its place, or the row goes on with a state that needs a choice and none waits
  choice : Reason
  -- the row returns what does not fit what was read or noted, or names no state
  answer : Reason
  -- a call, and what it goes on with, takes more calls than the state says
  unpaid : Reason
  -- no state has the name that a reading starts with, or that state has open spans, or needs a choice, a byte or a noted place
  start : Reason

-- this reason if the test fails, and else the other one
abbrev pub unless : Bool → Reason → Option Reason → Option Reason
unless passed reason other = cond passed other (Some reason)

-- a name with what is wrong, if something is
abbrev pub with_reason : Name → Option Reason → List (Name × Reason)
with_reason name None = []
with_reason name (Some reason) = (name, reason) ∷ []

module _ {W R D : Type 0} (states : List (StateRows W R D)) where
  -- the open spans are the state's
  abbrev pub are_its_spans : List EventName → Option (StateRows W R D) → Bool
  are_its_spans there None = true
  are_its_spans there (Some state) = same_names there state.spans

  -- the open spans fit what a row returns; none is open if it returns Ok
  abbrev pub fits_spans : Shape → State → Bool
  fits_spans p (Next name) = are_its_spans p.spans (named states name)
  fits_spans p (Retry name) = are_its_spans p.spans (named states name)
  fits_spans p Ok = same_names p.spans []
  fits_spans p _ = true

  -- the choice waits that a state needs, or it needs none
  abbrev pub has_its_choice : Shape → (read : Bool) → Option (StateRows W R D) → Bool
  has_its_choice p read None = true
  has_its_choice p read (Some state) = (not (needs_choice state.needs read) || p.within) && (not (needs_failing state.needs read) || p.failing)

  -- a choice waits if what a row returns needs one; Nok needs one that may end with it, and Ok needs one unless all was read
  abbrev pub has_choice : (read : Bool) → Shape → State → Bool
  has_choice read p (Next name) = has_its_choice p true (named states name)
  has_choice read p (Retry name) = has_its_choice p read (named states name)
  has_choice read p Ok = p.within || is_end p.stage
  has_choice read p Nok = p.failing
  has_choice read p (Error message) = true

  -- each row of a state, with what is open after its acts, passes a test
  abbrev pub rows_pass : (test : Shape → Row R D → Bool) → (previous current : Option W) → StateRows W R D → Bool
  rows_pass test b w state = all_rows (λ r. test (after_all r.acts (start_shape b w state)) r) (state.rows b w)

  -- each of the rows' acts is allowed; what they return fits the open spans; and the choices that are made or needed fit
  abbrev pub acts_fit : (previous current : Option W) → StateRows W R D → Bool
  acts_fit b w state = rows_pass (λ p r. allows_all r.acts (start_shape b w state)) b w state

  abbrev pub spans_fit : (previous current : Option W) → StateRows W R D → Bool
  spans_fit b w state = rows_pass (λ p r. fits_spans p r.answer) b w state

  abbrev pub choices_fit : (previous current : Option W) → StateRows W R D → Bool
  choices_fit b w state = rows_pass (λ p r. fits_choices states w r.acts (start_shape b w state) && has_choice (is_some b) p r.answer) b w state

  -- the first reason why a state does not fit if this was read and this waits
  abbrev pub misfit : (previous current : Option W) → StateRows W R D → Option Reason
  misfit b w state =
      unless (acts_fit b w state) act
      (unless (spans_fit b w state) spans
      (unless (choices_fit b w state) choice
      (unless (all_rows (fits_row states b w state) (state.rows b w)) answer
      (unless (fits_calls states b w state state.cost) unpaid None))))

  -- the name of a state that is called and does not fit, with the reason
  abbrev pub named_misfit : (previous current : Option W) → StateRows W R D → List (Name × Reason)
  named_misfit b w state = with_reason state.name (cond (is_called states w state) (misfit b w state) None)

  -- a name with which no reading may start
  abbrev pub named_start : Name → List (Name × Reason)
  named_start name = cond (may_start states (named states name)) [] ((name, start) ∷ [])

-- the names of the states that do not fit if this was read and this waits, and of the starts that do not fit, each with the first reason
abbrev pub misfits : {W R D : Type 0} → Table W R D → (previous current : Option W) → List (Name × Reason)
misfits table b w = flat_map (named_misfit table.states b w) table.states ++ flat_map (named_start table.states) table.starts
