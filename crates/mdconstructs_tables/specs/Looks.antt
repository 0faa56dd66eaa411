-- Looks: what a table reads without events, as a function of the bytes that are left and of what states share.
use Rattle.std.specs.Prelude.{◌≡◌, ℕ, zero, suc, ◌+◌, ◌⊎◌, ◌∷◌, List, [], Bool, true, false, Option, Some, None, drop}
use Rattle.markdown_base.specs.declared.event.Event.{Event}
use Rattle.markdown_base.specs.declared.event.Name.{Name as EventName}
use Rattle.markdown_base.specs.declared.state.Name.{Name}
use Rattle.markdown_base.specs.declared.state.State.{State}
use Rattle.markdown_base.specs.declared.state.State.TheVariants.{Next, Retry, Ok, Nok}
use Rattle.markdown_base.specs.Virtual.{Seat}
use Rattle.markdown_tokenizer.specs.declared.waiting.Waits.{Waits}
use Rattle.markdown_tokenizer.specs.declared.waiting.Waits.TheVariants.{Nothing, Byte, End}
use Rattle.markdown_tokenizer.specs.Text.{Given, Text}
use Rattle.markdown_tokenizer.specs.Configuration.{Configuration, Local, Choice, Step}
use Rattle.markdown_tokenizer.specs.Sight.{Sight, sight, byte_of, seat_before}
use Rattle.markdown_tokenizer.specs.Reading.{Reading, EndsIn, read, more_calls}
use Rattle.mdconstructs_tables.specs.Rows.{Act, consume, writes, Row, StateRows, Table, class_of, past, shown_sight, picked, named, table_step}

-- what waits before these bytes: the first of them, or the end
abbrev pub waits_at : List Seat → Waits
waits_at [] = End
waits_at (s ∷ ss) = Byte

-- the end mark before them: as it was, or set at the end
abbrev pub ended_at : Bool → List Seat → Bool
ended_at mark [] = true
ended_at mark (s ∷ ss) = mark

-- the first of these bytes, if there is one
abbrev pub first_byte : List Seat → Option ℕ
first_byte [] = None
first_byte (s ∷ ss) = Some s.byte

-- What a look comes to: how many bytes it read, what waits then and the end mark, what states share, its answer, and how many states were
-- called. The answer is Ok or Nok; or it is a state whose call is no part of the look, as its row is not quiet.
pub record Look (R D : Type 0) : Type 0 where
  pub count : ℕ
  pub waiting : Waits
  pub ended : Bool
  pub local : Local R D
  pub answer : State
  pub calls : ℕ

-- What a look does at one place, and in how many calls: it reads the byte and goes on with a state, or it is over, with or without the byte
pub data Glance (R D : Type 0) : Type 0 where
  goes_on : Local R D → Name → (calls : ℕ) → Glance R D
  is_over : (read : Bool) → Local R D → State → (calls : ℕ) → Glance R D

module _ {R D : Type 0} where
  -- one more call at the place
  abbrev pub one_more : Glance R D → Glance R D
  one_more (goes_on local name calls) = goes_on local name (suc calls)
  one_more (is_over read local answer calls) = is_over read local answer (suc calls)

  -- the calls of a place, and its byte, before those of the rest
  abbrev pub behind_byte : ℕ → Look R D → Look R D
  behind_byte calls rest = record rest { count = suc rest.count; calls = calls + rest.calls }

  -- the look is over before the call of this state
  abbrev pub uncalled : Local R D → Name → Glance R D
  uncalled local name = is_over false local (Retry name) 0

  -- What a row comes to, by whether its acts read the byte, what they wrote, and its answer. A row that is not quiet is not called: it has
  -- other acts than writes and one consume, or its answer does not fit what was read.
  abbrev pub answered : (again : Local R D → Name → Glance R D) → (loud : Glance R D) → Option (Bool × Local R D) → State → Glance R D
  answered again loud (Some (true, local)) (Next name) = goes_on local name 1
  answered again loud (Some (false, local)) (Retry name) = one_more (again local name)
  answered again loud (Some (read, local)) Ok = is_over read local Ok 1
  answered again loud (Some (read, local)) Nok = is_over read local Nok 1
  answered again loud _ _ = loud

-- The stack and the events, which a look leaves as they are
module _ {R D : Type 0} (stack : List EventName) (events : List Event) where
  -- a configuration with these
  abbrev pub held : (position : ℕ) → Waits → (ended : Bool) → Local R D → Configuration R D
  held q waits ended local = record { position = q; waiting = waits; ended = ended; events = events; stack = stack; local = local }

  -- before these bytes: the first of them waits, or the end
  abbrev pub shows : List Seat → (position : ℕ) → (mark : Bool) → Local R D → Configuration R D
  shows l q mark local = held q (waits_at l) (ended_at mark l) local

  -- the same in a call, which may have read the byte
  abbrev pub shows_in : List Seat → (position : ℕ) → (mark : Bool) → (read : Bool) → Local R D → Configuration R D
  shows_in l q mark true local = held (q + 1) Nothing false local
  shows_in l q mark false local = shows l q mark local

  -- what the acts of a quiet row come to, where this is seen: whether the byte was read, and what they wrote
  abbrev pub acted : Sight → List Seat → (position : ℕ) → (mark : Bool) → (read : Bool) → Local R D → List (Act R D) → Option (Bool × Local R D)
  acted s l q mark read local [] = Some (read, local)
  acted s l q mark false local (consume ∷ acts) = acted (past s) l q mark true local acts
  acted s l q mark read local (writes f ∷ acts) = acted s l q mark read (f (shown_sight s) (shows_in l q mark read local)) acts
  acted s l q mark _ _ _ = None

  -- what a row comes to
  abbrev pub by_row : (again : Local R D → Name → Glance R D) → (loud : Glance R D)
      → Sight → List Seat → (position : ℕ) → (mark : Bool) → Local R D → Row R D → Glance R D
  by_row again loud s l q mark local r = answered again loud (acted s l q mark false local r.acts) r.answer

module _ {W R D : Type 0} (table : Table W R D) (g : Given) (text : Text) (stack : List EventName) (events : List Event) where
  -- the row of a state, by the byte before and the bytes that are left
  abbrev pub row_here : (previous : Option ℕ) → List Seat → (position : ℕ) → (mark : Bool) → Local R D → StateRows W R D → Row R D
  row_here previous l q mark local state =
      let k : Configuration R D = shows stack events l q mark local in
      let rows = state.rows (class_of table.class previous) (class_of table.class (first_byte l)) in
      picked rows g (sight g text k) (shows stack events l q mark (table.first local))

  -- a call of the state of a name: first what each call writes, then its row
  abbrev pub called : (again : Local R D → Name → Glance R D) → (previous : Option ℕ) → List Seat → (position : ℕ) → (mark : Bool)
      → Local R D → Name → Option (StateRows W R D) → Glance R D
  called again previous l q mark local name None = uncalled local name
  called again previous l q mark local name (Some state) =
      let s = sight g text (shows stack events l q mark local) in
      by_row stack events again (uncalled local name) s l q mark (table.first local) (row_here previous l q mark local state)

  -- the calls at one place, so many at most
  abbrev pub glance : (bound : ℕ) → (previous : Option ℕ) → List Seat → (position : ℕ) → (mark : Bool) → Local R D → Name → Glance R D
  glance zero previous l q mark local name = uncalled local name
  glance (suc bound) previous l q mark local name =
      called (glance bound previous l q mark) previous l q mark local name (named table.states name)

  -- what a place leaves to do
  abbrev pub looked_on : (rest : Local R D → Name → Look R D) → List Seat → (mark : Bool) → Glance R D → Look R D
  looked_on rest l mark (goes_on local name calls) = behind_byte calls (rest local name)
  looked_on rest l mark (is_over true local answer calls) =
      record { count = 1; waiting = Nothing; ended = false; local = local; answer = answer; calls = calls }
  looked_on rest l mark (is_over false local answer calls) =
      record { count = 0; waiting = waits_at l; ended = ended_at mark l; local = local; answer = answer; calls = calls }

  -- behind the end nothing more is fed
  abbrev pub unfed_look : Local R D → Name → Look R D
  unfed_look local name = record { count = 0; waiting = Nothing; ended = false; local = local; answer = Next name; calls = 0 }

  -- A look, by recursion on the bytes that are left: with a bound of the calls at one place, the byte before, the position and the end mark
  abbrev pub scan : (bound : ℕ) → List Seat → (previous : Option ℕ) → (position : ℕ) → (mark : Bool) → Local R D → Name → Look R D
  scan bound [] previous q mark local name = looked_on unfed_look [] mark (glance bound previous [] q mark local name)
  scan bound (s ∷ ss) previous q mark local name =
      looked_on (scan bound ss (Some s.byte) (q + 1) false) (s ∷ ss) mark (glance bound previous (s ∷ ss) q mark local name)

  -- the configuration in which a look from a position ends
  abbrev pub looked : (position : ℕ) → Look R D → Configuration R D
  looked q r = held stack events (q + r.count) r.waiting r.ended r.local

-- a configuration in which the first of the bytes that are left waits, or the end
pub record IsShown {R D : Type 0} (text : Text) (k : Configuration R D) : Type 0 where
  pub mark : Bool
  pub is : k ≡ shows k.stack k.events (drop k.position text.seats) k.position mark k.local

module _ {W R D : Type 0} (table : Table W R D) (g : Given) (text : Text) where
  -- the look from there, with a bound of the calls at one place
  abbrev pub look_from : (bound : ℕ) → (k : Configuration R D) → IsShown text k → Name → Look R D
  look_from bound k is name =
      let previous = byte_of (seat_before text k.position) in
      scan table g text k.stack k.events bound (drop k.position text.seats) previous k.position is.mark k.local name

  -- the configuration in which that look ends
  abbrev pub looked_from : Configuration R D → Look R D → Configuration R D
  looked_from k r = looked table g text k.stack k.events k.position r

-- a machine plays a table: at the names of the table's states it does what the table says
abbrev pub Plays : {W R D : Type 0} → Table W R D → Given → (step : Sight → Configuration R D → Name → Step R D) → Type 0
Plays {W} {R} {D} table g step = (name : Name) (state : StateRows W R D) → named table.states name ≡ Some state
    → (s : Sight) (k : Configuration R D) → step s k name ≡ table_step table g s k name

-- Looks are scans. Reading on from a state, with choices that wait, is reading on from where its look ends: so many calls later, so many bytes
-- on, with the same events and the same stack. The state alone is read as what is read from there, so a look that ends is read as it says.
pub record LooksAreScans {W R D : Type 0} (table : Table W R D) (g : Given) (text : Text)
    (step : Sight → Configuration R D → Name → Step R D) : Type 0 where
  pub leads : (bound : ℕ) (k : Configuration R D) (is : IsShown text k) (name : Name) → let r = look_from table g text bound k is name in
      (choices : List Choice) (calls : ℕ) (z : Reading R D)
      → EndsIn g step text (calls + r.calls) (looked_from table g text k r) choices r.answer z
      → EndsIn g step text calls k choices (Retry name) z
  pub reads : (bound : ℕ) (k : Configuration R D) (is : IsShown text k) (name : Name) → let r = look_from table g text bound k is name in
      (more : ℕ)
      → read g step text (r.calls + more) k (Retry name)
      ≡ more_calls r.calls (read g step text more (looked_from table g text k r) r.answer)
  pub ends : (bound : ℕ) (k : Configuration R D) (is : IsShown text k) (name : Name) → let r = look_from table g text bound k is name in
      (r.answer ≡ Ok) ⊎ (r.answer ≡ Nok)
      → read g step text r.calls k (Retry name)
      ≡ Some (record { configuration = looked_from table g text k r; answer = r.answer; calls = r.calls })
