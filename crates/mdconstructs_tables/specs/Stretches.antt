-- Stretches: what a table reads while its states make no choice, as a function of the bytes that are left. As a look, but with events: rows
-- may enter, exit and link.
use Rattle.std.specs.Prelude.{◌≡◌, ℕ, zero, suc, ◌+◌, ◌∷◌, List, [], Bool, true, false, cond, Option, Some, None, drop}
use Rattle.markdown_base.specs.declared.event.Point.{Point}
use Rattle.markdown_base.specs.declared.state.Name.{Name}
use Rattle.markdown_base.specs.declared.state.State.{State}
use Rattle.markdown_base.specs.declared.state.State.TheVariants.{Next, Retry, Ok, Nok}
use Rattle.markdown_base.specs.Places.{shown}
use Rattle.markdown_base.specs.Virtual.{Seat}
use Rattle.markdown_tokenizer.specs.declared.waiting.Waits.TheVariants.{Byte, End}
use Rattle.markdown_tokenizer.specs.Calls.{with_local}
use Rattle.markdown_tokenizer.specs.Configuration.{Configuration, Choice, Step}
use Rattle.markdown_tokenizer.specs.Reading.{Reading, EndsIn, read, more_calls}
use Rattle.markdown_tokenizer.specs.Sight.{Sight, byte_of, end_place, seat_before}
use Rattle.markdown_tokenizer.specs.Text.{Given, Text}
use Rattle.mdconstructs_tables.specs.Looks.{waits_at}
use Rattle.mdconstructs_tables.specs.Rows.{Act, choose, consume, StateRows, Table, does, named, row_at}

-- what is seen before these bytes: the previous byte, the place behind it, and the place of the text's end
abbrev pub sight_before : Given → (end behind : Point) → (previous : Option ℕ) → List Seat → Sight
sight_before g end behind previous [] =
    record { previous = previous; current = None; point = end; enter_place = shown g.bytes end; exit_place = shown g.bytes behind; next = shown g.bytes behind }
sight_before g end behind previous (s ∷ ss) =
    record { previous = previous; current = Some s.byte; point = s.point; enter_place = shown g.bytes s.point; exit_place = shown g.bytes behind; next = shown g.bytes s.end }

-- if acts make no choice, and read the byte at most once: whether they read it
abbrev pub reads_byte : {R D : Type 0} → (read : Bool) → List (Act R D) → Option Bool
reads_byte read [] = Some read
reads_byte false (consume ∷ acts) = reads_byte true acts
reads_byte true (consume ∷ acts) = None
reads_byte read (choose kind ok nok ∷ acts) = None
reads_byte read (_ ∷ acts) = reads_byte read acts

-- What the calls at one place come to, and how many they are: the byte is read, and a state is to come; or the stretch is over
pub data Halt (R D : Type 0) : Type 0 where
  to_come : Configuration R D → Name → (calls : ℕ) → Halt R D
  over : Configuration R D → State → (calls : ℕ) → Halt R D

-- names at which a stretch is over, before their states are called
module _ {R D : Type 0} (until : Name → Bool) where
  -- one more call at the place
  abbrev pub one_call_more : Halt R D → Halt R D
  one_call_more (to_come k name calls) = to_come k name (suc calls)
  one_call_more (over k answer calls) = over k answer (suc calls)

  -- What a row comes to, by whether its acts read the byte, the configuration behind them, and its answer. A row that makes a choice, or whose
  -- answer does not fit what was read, is not called.
  abbrev pub row_comes_to : (again : Configuration R D → Name → Halt R D) → (uncalled : Halt R D) → Option Bool → Configuration R D → State → Halt R D
  row_comes_to again uncalled (Some true) k (Next name) = cond (until name) (over k (Next name) 1) (to_come k name 1)
  row_comes_to again uncalled (Some false) k (Retry name) = cond (until name) (over k (Retry name) 1) (one_call_more (again k name))
  row_comes_to again uncalled (Some read) k Ok = over k Ok 1
  row_comes_to again uncalled (Some read) k Nok = over k Nok 1
  row_comes_to again uncalled _ k _ = uncalled

module _ {R D : Type 0} where
  -- the first of these bytes waits, or the end
  abbrev pub fed_before : List Seat → Configuration R D → Configuration R D
  fed_before [] k = record k { waiting = End; ended = true }
  fed_before (s ∷ ss) k = record k { waiting = Byte }

  -- the calls of a place, and what comes behind its byte
  abbrev pub ahead : (rest : Configuration R D → Name → Reading R D) → Halt R D → Reading R D
  ahead rest (to_come k name calls) = let r = rest k name in record r { calls = calls + r.calls }
  ahead rest (over k answer calls) = record { configuration = k; answer = answer; calls = calls }

module _ {W R D : Type 0} (table : Table W R D) (g : Given) (end : Point) (until : Name → Bool) where
  -- a call of the state of a name: first what each call writes, then its row
  abbrev pub call_comes_to : (again : Configuration R D → Name → Halt R D) → Sight → Configuration R D → Name → Option (StateRows W R D) → Halt R D
  call_comes_to again s k name None = over k (Retry name) 0
  call_comes_to again s k name (Some state) =
      let k1 = with_local k (table.first k.local) in
      let r = row_at table.class state g s k1 in
      row_comes_to until again (over k (Retry name) 0) (reads_byte false r.acts) (does r.acts s k1) r.answer

  -- the calls at one place, so many at most
  abbrev pub halt : (bound : ℕ) → Sight → Configuration R D → Name → Halt R D
  halt zero s k name = over k (Retry name) 0
  halt (suc bound) s k name = call_comes_to (halt bound s) s k name (named table.states name)

  -- A stretch, by recursion on the bytes that are left: with a bound of the calls at one place, the place behind the previous byte, and that
  -- byte. Behind the end nothing is fed.
  abbrev pub stretch : (bound : ℕ) → (behind : Point) → (previous : Option ℕ) → List Seat → Configuration R D → Name → Reading R D
  stretch bound behind previous [] k name = ahead (λ k name. record { configuration = k; answer = Next name; calls = 0 }) (halt bound (sight_before g end behind previous []) k name)
  stretch bound behind previous (s ∷ ss) k name =
      ahead (λ k name. stretch bound s.end (Some s.byte) ss (fed_before ss k) name) (halt bound (sight_before g end behind previous (s ∷ ss)) k name)

-- the stretch from a configuration in which the first of the bytes that are left waits, or the end
abbrev pub stretch_from : {W R D : Type 0} → Table W R D → Given → Text → (until : Name → Bool) → (bound : ℕ) → Configuration R D → Name → Reading R D
stretch_from table g text until bound k name =
    stretch table g text.end until bound (end_place text k.position) (byte_of (seat_before text k.position)) (drop k.position text.seats) k name

-- Stretches are read. Reading on from a state, with choices that wait, is reading on from where its stretch ends, so many calls later
pub record StretchesAreRead {W R D : Type 0} (table : Table W R D) (g : Given) (text : Text) (step : Sight → Configuration R D → Name → Step R D) : Type 0 where
  pub leads : (until : Name → Bool) (bound : ℕ) (k : Configuration R D) (name : Name) → k.waiting ≡ waits_at (drop k.position text.seats)
      → let r = stretch_from table g text until bound k name in
      (choices : List Choice) (calls : ℕ) (z : Reading R D)
      → EndsIn g step text (calls + r.calls) r.configuration choices r.answer z
      → EndsIn g step text calls k choices (Retry name) z
  pub reads : (until : Name → Bool) (bound : ℕ) (k : Configuration R D) (name : Name) → k.waiting ≡ waits_at (drop k.position text.seats)
      → let r = stretch_from table g text until bound k name in
      (more : ℕ) → read g step text (r.calls + more) k (Retry name) ≡ more_calls r.calls (read g step text more r.configuration r.answer)
