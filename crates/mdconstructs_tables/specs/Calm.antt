-- Calm rows: they make no choice, link no events to one another, and write only what is harmless. A test of rows says that they keep what a
-- machine knows.
use Rattle.std.specs.Prelude.{◌≡◌, ℕ, ◌∷◌, ◌++◌, ◌&&◌, ◌||◌, List, [], Bool, true, false, Option, Some, None}
use Rattle.markdown_base.specs.declared.event.Event.{Event}
use Rattle.markdown_base.specs.declared.event.Link.{Link}
use Rattle.markdown_base.specs.declared.state.Name.{Name}
use Rattle.markdown_base.specs.declared.state.State.{State}
use Rattle.markdown_base.specs.declared.state.State.TheVariants.{Retry}
use Rattle.markdown_tokenizer.specs.Configuration.{Configuration, Local, Choice}
use Rattle.markdown_tokenizer.specs.Sight.{Sight}
use Rattle.mdconstructs_tables.specs.Cases.{Case, cases}
use Rattle.mdconstructs_tables.specs.Knowledge.{KeepsKnowing, KnownAfter}
use Rattle.mdconstructs_tables.specs.Rows.{Act, enters, exit, consume, writes, Rows, row, when, Row, StateRows, Table, step_of}
use Rattle.mdconstructs_tables.specs.RowTest.{all_rows}

-- an event's link has no ends: it is linked to no other event
abbrev pub is_end_free : Option ℕ → Bool
is_end_free None = true
is_end_free (Some index) = false

abbrev pub is_alone : Option Link → Bool
is_alone None = true
is_alone (Some link) = is_end_free link.next && is_end_free link.previous

-- What is the same for all rows of a machine. `fresh`: which links its events may have. `steady`: the states at which one more such event
-- changes nothing that is known. `carries`: from which state to which what is known goes over. `also`: other rows, which are no concern of the
-- test
pub record Calmness (R D : Type 0) : Type 0 where
  pub fresh : Option Link → Bool
  pub steady : State → Bool
  pub carries : State → State → Bool
  pub also : Name → Row R D → Bool

module _ {R D : Type 0} where
  -- acts make no choice and link nothing, and make only such events, if they may make any
  abbrev pub are_calm : (fresh : Option Link → Bool) → (may : Bool) → List (Act R D) → Bool
  are_calm fresh may [] = true
  are_calm fresh may (enters name link ∷ acts) = may && (fresh link && are_calm fresh may acts)
  are_calm fresh may (exit name ∷ acts) = may && (fresh None && are_calm fresh may acts)
  are_calm fresh may (consume ∷ acts) = are_calm fresh may acts
  are_calm fresh may (writes f ∷ acts) = are_calm fresh may acts
  are_calm fresh may (_ ∷ acts) = false

  -- a row of a state is calm, or another row that is no concern of the test
  abbrev pub is_calm : Calmness R D → Name → Row R D → Bool
  is_calm c name r = (c.carries (Retry name) r.answer && are_calm c.fresh (c.steady (Retry name) || c.steady r.answer) r.acts) || c.also name r

  module _ (harmless : (Sight → Configuration R D → Local R D) → Type 0) where
    -- each write of acts is harmless, and the given property holds
    abbrev pub WriteHarmless : List (Act R D) → Type 0 → Type 0
    WriteHarmless [] P = P
    WriteHarmless (writes f ∷ acts) P = harmless f × WriteHarmless acts P
    WriteHarmless (_ ∷ acts) P = WriteHarmless acts P

    -- the same of rows
    abbrev pub RowsHarmless : Rows R D → Type 0 → Type 0
    RowsHarmless (row acts answer) P = WriteHarmless acts P
    RowsHarmless (when test one other) P = RowsHarmless one (RowsHarmless other P)

    -- and of cases
    abbrev pub CasesHarmless : {W : Type 0} → List (Case W R D) → Type 0 → Type 0
    CasesHarmless [] P = P
    CasesHarmless (c ∷ cs) P = RowsHarmless c.rows (CasesHarmless cs P)

  -- each of the rows of cases passes a test
  abbrev pub all_cases : {W : Type 0} → (Row R D → Bool) → List (Case W R D) → Bool
  all_cases test [] = true
  all_cases test (c ∷ cs) = all_rows test c.rows && all_cases test cs

module _ {W R D : Type 0} (table : Table W R D) (knows : List Event → Local R D → List Choice → State → Type 0) (harmless : (Sight → Configuration R D → Local R D) → Type 0) (c : Calmness R D) where
  -- What the test relies on: what each call writes first, and what is harmless, leaves what is known; one more event does at a steady state; and
  -- what is known goes over where the machine says so
  pub record IsCalmness : Type 0 where
    pub by_call : (k : Configuration R D) (choices : List Choice) (name : Name) → knows k.events k.local choices (Retry name) → knows k.events (table.first k.local) choices (Retry name)
    pub by_write : (f : Sight → Configuration R D → Local R D) → harmless f → (s : Sight) (k : Configuration R D) (choices : List Choice) (state : State) → knows k.events k.local choices state
        → knows k.events (f s k) choices state
    pub by_event : (state : State) → c.steady state ≡ true → (events : List Event) (e : Event) (local : Local R D) (choices : List Choice) → c.fresh e.link ≡ true
        → knows events local choices state → knows (events ++ e ∷ []) local choices state
    pub by_going : (from to : State) → c.carries from to ≡ true → (events : List Event) (local : Local R D) (choices : List Choice) → knows events local choices from → knows events local choices to
    pub by_others : (name : Name) (r : Row R D) → c.also name r ≡ true → WriteHarmless harmless r.acts (Unit {0}) → (s : Sight) (k : Configuration R D) (choices : List Choice)
        → knows k.events k.local choices (Retry name) → KnownAfter table knows (step_of r s k) choices

  -- the rows of a state are calm, and write only what is harmless, if this was read and this waits
  abbrev pub IsCalmAt : StateRows W R D → (previous current : Option W) → Type 0
  IsCalmAt state b w = (all_rows (is_calm c state.name) (state.rows b w) ≡ true) × RowsHarmless harmless (state.rows b w) (Unit {0})

  -- the same of rows that are given by cases
  abbrev pub AreCalmCases : Name → (at_end : Rows R D) → List (Case W R D) → (rest : Rows R D) → Type 0
  AreCalmCases name at_end cs rest =
      ((all_rows (is_calm c name) at_end && (all_cases (is_calm c name) cs && all_rows (is_calm c name) rest)) ≡ true)
      × RowsHarmless harmless at_end (CasesHarmless harmless cs (RowsHarmless harmless rest (Unit {0})))

  -- So a state keeps what is known if its rows are calm, whatever was read and waits
  abbrev pub CalmRowsKeep : Type 0
  CalmRowsKeep = IsCalmness → (state : StateRows W R D) → ((previous current : Option W) → IsCalmAt state previous current) → KeepsKnowing table knows state

  -- or if the cases are by which its rows are given
  abbrev pub CalmCasesKeep : Type 0
  CalmCasesKeep = IsCalmness → (state : StateRows W R D) (at_end : Rows R D) (cs : List (Case W R D)) (rest : Rows R D) → state.rows ≡ cases at_end cs rest → AreCalmCases state.name at_end cs rest
      → KeepsKnowing table knows state
