-- Looks in looks: a check within a look looks on from its place and goes back there, and the look goes on with what the check says.
use Rattle.std.specs.Prelude.{ℕ, zero, suc, ◌+◌, ◌∷◌, List, [], Bool, true, false, Option, Some, None, drop}
use Rattle.markdown_base.specs.declared.event.Event.{Event}
use Rattle.markdown_base.specs.declared.event.Name.{Name as EventName}
use Rattle.markdown_base.specs.declared.state.Name.{Name}
use Rattle.markdown_base.specs.declared.state.State.{State}
use Rattle.markdown_base.specs.declared.state.State.TheVariants.{Next, Retry, Ok, Nok}
use Rattle.markdown_base.specs.Virtual.{Seat}
use Rattle.markdown_tokenizer.specs.declared.waiting.AttemptKind.TheVariants.{Check}
use Rattle.markdown_tokenizer.specs.declared.waiting.Waits.TheVariants.{Nothing}
use Rattle.markdown_tokenizer.specs.Text.{Given, Text}
use Rattle.markdown_tokenizer.specs.Configuration.{Configuration, Local, Choice, Step}
use Rattle.markdown_tokenizer.specs.Reading.{Reading, EndsIn}
use Rattle.markdown_tokenizer.specs.Sight.{Sight, sight, byte_of, seat_before}
use Rattle.mdconstructs_tables.specs.Looks.{waits_at, ended_at, Look, behind_byte, shows, acted, row_here, unfed_look, scan, looked_from, IsShown}
use Rattle.mdconstructs_tables.specs.Rows.{Act, choose, StateRows, Table, named}

-- What a look comes to at one place: it reads the byte and goes on with a state, after so many calls; or it is over
pub data Turn (R D : Type 0) : Type 0 where
  reads_on : Local R D → Name → (calls : ℕ) → Turn R D
  ends : Look R D → Turn R D

module _ {R D : Type 0} where
  -- so many calls more
  abbrev pub later : ℕ → Turn R D → Turn R D
  later n (reads_on local name calls) = reads_on local name (n + calls)
  later n (ends r) = ends (record r { calls = n + r.calls })

  -- over behind the first of these bytes, or before them
  abbrev pub over_at : List Seat → (mark : Bool) → (read : Bool) → Local R D → State → (calls : ℕ) → Look R D
  over_at l mark true local a n = record { count = 1; waiting = Nothing; ended = false; local = local; answer = a; calls = n }
  over_at l mark false local a n = record { count = 0; waiting = waits_at l; ended = ended_at mark l; local = local; answer = a; calls = n }

  -- over once a check went back: nothing waits
  abbrev pub over_back : List Seat → (mark : Bool) → Local R D → State → (calls : ℕ) → Look R D
  over_back l mark local a n = record { count = 0; waiting = Nothing; ended = ended_at mark l; local = local; answer = a; calls = n }

-- Before these bytes, with what comes of a further call at the place, and of no call
module _ {R D : Type 0} (l : List Seat) (mark : Bool) (again : Local R D → Name → Turn R D) (uncalled : Turn R D) where
  -- a row without a check, as in a look
  abbrev pub turned : Option (Bool × Local R D) → State → Turn R D
  turned (Some (true, local)) (Next name) = reads_on local name 1
  turned (Some (false, local)) (Retry name) = later 1 (again local name)
  turned (Some (read, local)) Ok = ends (over_at l mark read local Ok 1)
  turned (Some (read, local)) Nok = ends (over_at l mark read local Nok 1)
  turned _ _ = uncalled

  -- a check went back to the place, with what was written since: it goes on there
  abbrev pub goes_back : (calls : ℕ) → Local R D → State → Turn R D
  goes_back n local (Next name) = later n (again local name)
  goes_back n local Ok = ends (over_back l mark local Ok n)
  goes_back n local Nok = ends (over_back l mark local Nok n)
  goes_back n local _ = uncalled

  -- by what its look ended with
  abbrev pub settled_by : State → (ok nok : State) → (calls : ℕ) → Local R D → Turn R D
  settled_by Ok ok nok n local = goes_back n local ok
  settled_by Nok ok nok n local = goes_back n local nok
  settled_by _ ok nok n local = uncalled

  -- a row that makes a check, and begins its look at the place
  abbrev pub checked : (inner : Local R D → Name → Look R D) → (ok nok : State) → Option (Bool × Local R D) → State → Turn R D
  checked inner ok nok (Some (false, local)) (Retry name) = let r = inner local name in settled_by r.answer ok nok (suc r.calls) r.local
  checked inner ok nok _ _ = uncalled

  -- what a row comes to, by what the acts behind its check do, or all its acts
  abbrev pub row_turned : (inner : Local R D → Name → Look R D) → (does : List (Act R D) → Option (Bool × Local R D)) → List (Act R D) → State → Turn R D
  row_turned inner does (choose Check ok nok ∷ acts) a = checked inner ok nok (does acts) a
  row_turned inner does acts a = turned (does acts) a

module _ {W R D : Type 0} (table : Table W R D) (g : Given) (text : Text) (stack : List EventName) (events : List Event) where
  -- a look, as a function of the bytes before which it begins: of them, of the byte before them, of the position and the end mark, and of
  -- what states share
  abbrev pub LookOver : Type 0
  LookOver = List Seat → (previous : Option ℕ) → (position : ℕ) → (mark : Bool) → Local R D → Name → Look R D

  -- with the looks that checks make
  module _ (inner : LookOver) where
    -- a call of the state of a name
    abbrev pub turn_of : (again : Local R D → Name → Turn R D) → List Seat → (previous : Option ℕ) → (position : ℕ) → (mark : Bool)
        → Local R D → Name → Option (StateRows W R D) → Turn R D
    turn_of again l previous q mark local name None = ends (over_at l mark false local (Retry name) 0)
    turn_of again l previous q mark local name (Some state) =
        let s = sight g text (shows stack events l q mark local) in
        let r = row_here table g text stack events previous l q mark local state in
        row_turned l mark again (ends (over_at l mark false local (Retry name) 0)) (inner l previous q mark) (acted stack events s l q mark false (table.first local)) r.acts r.answer

    -- the calls at one place, so many at most
    abbrev pub turns : (bound : ℕ) → List Seat → (previous : Option ℕ) → (position : ℕ) → (mark : Bool) → Local R D → Name → Turn R D
    turns zero l previous q mark local name = ends (over_at l mark false local (Retry name) 0)
    turns (suc bound) l previous q mark local name = turn_of (turns bound l previous q mark) l previous q mark local name (named table.states name)

    -- what a place leaves to do
    abbrev pub turned_on : (rest : Local R D → Name → Look R D) → Turn R D → Look R D
    turned_on rest (reads_on local name calls) = behind_byte calls (rest local name)
    turned_on rest (ends r) = r

    -- a look, by recursion on the bytes that are left
    abbrev pub look_over : (bound : ℕ) → LookOver
    look_over bound [] previous q mark local name = turned_on (unfed_look table g text stack events) (turns bound [] previous q mark local name)
    look_over bound (s ∷ ss) previous q mark local name =
        turned_on (look_over bound ss (Some s.byte) (q + 1) false) (turns bound (s ∷ ss) previous q mark local name)

  -- Looks in looks, so many deep: without any, a look has no checks. The bound is of the calls at one place
  abbrev pub deep_scan : (depth bound : ℕ) → LookOver
  deep_scan zero bound = scan table g text stack events bound
  deep_scan (suc depth) bound = look_over (deep_scan depth bound) bound

-- the deep look from there
abbrev pub deep_look_from : {W R D : Type 0} → Table W R D → Given → (text : Text) → (depth bound : ℕ) → (k : Configuration R D) → IsShown text k → Name → Look R D
deep_look_from table g text depth bound k is name =
    let previous = byte_of (seat_before text k.position) in
    deep_scan table g text k.stack k.events depth bound (drop k.position text.seats) previous k.position is.mark k.local name

-- Deep looks are functions of bytes too: reading on from a state, with choices that wait, is reading on from where its deep look ends, so many
-- calls later
abbrev pub DeepLooksAreScans : {W R D : Type 0} → Table W R D → Given → Text → (step : Sight → Configuration R D → Name → Step R D) → Type 0
DeepLooksAreScans {W} {R} {D} table g text step = (depth bound : ℕ) (k : Configuration R D) (is : IsShown text k) (name : Name)
    → let r = deep_look_from table g text depth bound k is name in
    (choices : List Choice) (calls : ℕ) (z : Reading R D)
    → EndsIn g step text (calls + r.calls) (looked_from table g text k r) choices r.answer z
    → EndsIn g step text calls k choices (Retry name) z
