-- What the fields of a tokenizer mean. An inner file: no public clause cites it.
use Rattle.std.specs.List.{AllByRecursion, IsDistinct}
use Rattle.std.specs.Prelude.{◌≡◌, ◌≢◌, ℕ, ◌≤◌, List, [], ◌∷◌, Bool, true, false, cond, nat_lt, ◌||◌, Option, None, Some, length, map, take, reverse, unwrap_or, IfSome, Result}
use Rattle.std.specs.declared.result.Result.TheVariants as result
use Rattle.markdown_base.specs.declared.event.Event.{Event}
use Rattle.markdown_base.specs.declared.event.Name.{Name}
use Rattle.markdown_base.specs.declared.state.Name.{Name as StateName}
use Rattle.markdown_base.specs.declared.event.Point.{Point}
use Rattle.markdown_base.specs.declared.state.State.{State}
use Rattle.markdown_base.specs.declared.state.State.TheVariants.{Next, Ok, Nok}
use Rattle.markdown_base.specs.Virtual.{Seat, point}
use Rattle.markdown_base.specs.Places.{point_at, shown, stands_before, is_upto}
use Rattle.markdown_tokenizer.specs.declared.waiting.Waits.{Waits}
use Rattle.markdown_tokenizer.specs.declared.waiting.Waits.TheVariants.{Nothing, Byte, End}
use Rattle.markdown_tokenizer.specs.declared.cursor.Moves.{Moves}
use Rattle.markdown_tokenizer.specs.declared.cursor.Moves.TheVariants.{Other}
use Rattle.markdown_tokenizer.specs.declared.waiting.Phase.{Phase}
use Rattle.markdown_tokenizer.specs.declared.waiting.Phase.TheVariants.{Reading}
use Rattle.markdown_tokenizer.specs.declared.waiting.GoesOn.{GoesOn}
use Rattle.markdown_tokenizer.specs.declared.waiting.GoesOn.TheVariants as goes_on
use Rattle.markdown_tokenizer.specs.declared.waiting.KeptChoice.{KeptChoice}
use Rattle.markdown_tokenizer.specs.declared.waiting.Progress.{Progress}
use Rattle.markdown_tokenizer.specs.declared.waiting.AttemptKind.{AttemptKind}
use Rattle.markdown_tokenizer.specs.declared.parser.ParseState.{ParseState}
use Rattle.markdown_tokenizer.specs.declared.tokenizer.Tokenizer.TheInside.{Inside}
use Rattle.markdown_tokenizer.specs.AtPlaces.{AreAtPlaces}
use Rattle.markdown_tokenizer.specs.Text.{Given, Text, IsText}
use Rattle.markdown_tokenizer.specs.Configuration.{Configuration, Choice, Saved, TokenizerValue}
use Rattle.markdown_tokenizer.specs.Calls.{saved_at}
use Rattle.markdown_tokenizer.specs.Sight.{seat_before, byte_of, end_place}
use Rattle.markdown_tokenizer.specs.Cursor.{IsPlace, IsSeatAt, MovesOver}
use Rattle.markdown_tokenizer.specs.Gaps.{kept_between, resumed, IsSkip, IsOutside, IsPlainUntil}
use Rattle.markdown_tokenizer.specs.Made.{IsMade}

abbrev pub state_of : GoesOn → State
state_of (goes_on.Next name) = Next name
state_of goes_on.Ok = Ok
state_of goes_on.Nok = Nok

-- a name to go on with, or the state in which the work ends
abbrev pub taken_continuation : Result StateName GoesOn → Result StateName State
taken_continuation (result.Ok name) = result.Ok name
taken_continuation (result.Err end) = result.Err (state_of end)

-- a choice that begins in a configuration, and saves it or not
abbrev pub choice_at : {R D : Type 0} → AttemptKind → (ok nok : State) → (saves : Bool) → Configuration R D → Choice
choice_at kind ok nok saves k = record { kind = kind; ok = ok; nok = nok; saved = cond saves (Some (saved_at k)) None }

-- the tab size of the options
abbrev pub tab_of : {M : Type 0} → ParseState M → ℕ
tab_of p = p.options.now.tab_size

-- the point of a place, given by index and number in a tab
abbrev pub end_point : (tab : ℕ) → List ℕ → (ℕ × ℕ) → Point
end_point tab bytes place = unwrap_or (point_at tab bytes place) (point 1 1 0 0)

-- the virtual bytes from one place on before another, without those in gaps
abbrev pub seats_between : (tab : ℕ) → List ℕ → List Point → Point → Point → List Seat
seats_between tab bytes skips from to = kept_between tab bytes skips from to

-- how many virtual bytes of the text are before a place
abbrev pub position_from : (tab : ℕ) → List ℕ → List Point → Point → Point → ℕ
position_from tab bytes skips start p = length (seats_between tab bytes skips start p)

-- what a choice saved, from what the code keeps of it; `position` gives the number of bytes before a place
abbrev pub saved_at_place : (Point → ℕ) → List Name → Progress → Saved
saved_at_place position stack p =
    record { position = position p.after_previous; ended = p.ended; events = p.events_len; stack = take p.stack_len stack }

abbrev pub saved_of : (Point → ℕ) → List Name → Option Progress → Option Saved
saved_of position stack None = None
saved_of position stack (Some p) = Some (saved_at_place position stack p)

abbrev pub choice_of : (Point → ℕ) → List Name → KeptChoice → Choice
choice_of position stack choice =
    record { kind = choice.kind; ok = state_of choice.ok; nok = state_of choice.nok; saved = saved_of position stack choice.saved }

abbrev pub seen : {M R D : Type 0} → Inside M R D → TokenizerValue M R D
seen t =
    let bytes = t.parse_state.now.bytes.now in
    let tab = tab_of t.parse_state.now in
    let position = position_from tab bytes t.skips t.start in record {
      given = record { bytes = bytes; options = t.parse_state.now.options.now; tab = tab };
      machine = t.parse_state.now.machine.now;
      text = record {
        start = t.start;
        seats = seats_between tab bytes t.skips t.start (end_point tab bytes t.end);
        end = end_point tab bytes t.end;
      };
      configuration = record {
        position = position t.after_previous;
        waiting = t.waits;
        ended = t.ended;
        events = t.events.items;
        stack = t.stack.items;
        local = record {
          tokenize_state = t.tokenize_state;
          map = t.map;
          resolvers = t.resolvers.items;
          interrupt = t.interrupt;
          concrete = t.concrete;
          pierce = t.pierce;
          lazy = t.lazy;
          noted = t.noted;
        };
      };
      choices = map (choice_of position t.stack.items) (reverse t.kept_choices.items);
      calls = t.calls.made;
      closed = t.closed;
      phase = t.phase;
    }

-- the text that was pushed
abbrev pub text_within : {M R D : Type 0} → Inside M R D → Text
text_within t = (seen t).text

-- A text was read up to a place: the place is where the previous byte ends, or the start, and that byte is known
pub record IsReadTo (tab : ℕ) (bytes : List ℕ) (skips : List Point) (text : Text) (after_previous : Point)
    (previous : Option ℕ) : Type 0 where
  pub place : IsPlace tab bytes after_previous
  pub from : is_upto tab bytes text.start after_previous ≡ true
  pub upto : is_upto tab bytes after_previous text.end ≡ true
  pub outside : IsOutside skips after_previous
  pub back : after_previous ≡ end_place text (position_from tab bytes skips text.start after_previous)
  pub previous_is : previous ≡ byte_of (seat_before text (position_from tab bytes skips text.start after_previous))

-- What waits is the next virtual byte
pub record ByteWaits (tab : ℕ) (bytes : List ℕ) (skips : List Point) (after_previous end : Point) (byte : ℕ) : Type 0 where
  pub seat : Seat
  pub at : IsSeatAt tab bytes (resumed skips after_previous) seat
  pub before : stands_before seat.point end ≡ true
  pub is : byte ≡ seat.byte

-- What waits is the end of the text, and all of it was read
pub record EndWaits (closed : Bool) (position size : ℕ) : Type 0 where
  pub closed_too : closed ≡ true
  pub all : size ≤ position

-- what waits
abbrev pub IsWhatWaits : (tab : ℕ) → List ℕ → List Point → Text → Point → (byte : ℕ) → Bool → Waits → Type 0
IsWhatWaits tab bytes skips text after_previous byte closed Nothing = Unit {0}
IsWhatWaits tab bytes skips text after_previous byte closed Byte = ByteWaits tab bytes skips after_previous text.end byte
IsWhatWaits tab bytes skips text after_previous byte closed End =
    EndWaits closed (position_from tab bytes skips text.start after_previous) (length text.seats)

-- the place of an enter: after the gap of a line, once something waits there
abbrev pub standing : List Point → Point → Waits → Point
standing skips after_previous Nothing = after_previous
standing skips after_previous Byte = resumed skips after_previous
standing skips after_previous End = resumed skips after_previous

-- the furthest place that an enter may have before more is read: after the gap of a line, if more can be fed
abbrev pub reach : List Point → Point → Bool → Point
reach skips after_previous more = cond more (resumed skips after_previous) after_previous

-- after a position something can still be fed: a byte, or the end
abbrev pub can_feed : (position size : ℕ) → (closed : Bool) → Bool
can_feed position size closed = nat_lt position size || closed

-- What a choice saved: a place up to which the text was read, with the events and the stack that were there, until a flush resolves
pub record IsProgress (phase : Phase) (tab : ℕ) (bytes : List ℕ) (skips : List Point) (text : Text) (events : List Event)
    (stack : List Name) (closed : Bool) (p : Progress) : Type 0 where
  pub read : IsReadTo tab bytes skips text p.after_previous p.previous
  pub ended : p.ended ≡ true → closed ≡ true
  pub made : phase ≡ Reading → IsMade bytes (take p.events_len events) (take p.stack_len stack) (shown bytes p.after_previous)
      (shown bytes (reach skips p.after_previous (can_feed (position_from tab bytes skips text.start p.after_previous) (length text.seats) closed)))

abbrev pub events_of : ℕ → Option Progress → ℕ
events_of n None = n
events_of n (Some p) = p.events_len

abbrev pub stack_of : ℕ → Option Progress → ℕ
stack_of n None = n
stack_of n (Some p) = p.stack_len

-- what choices saved, the last first: each saved no more events and open spans than the one made after it
abbrev pub AreNested : (Progress → Type 0) → (events stack : ℕ) → List KeptChoice → Type 0
AreNested P events stack [] = Unit {0}
AreNested P events stack (choice ∷ kept_choices) =
    IfSome choice.saved (λ p. (p.events_len ≤ events) × (p.stack_len ≤ stack) × P p)
    × AreNested P (events_of events choice.saved) (stack_of stack choice.saved) kept_choices

-- The position of a tokenizer in its text: its gaps, how far it has read, and what waits. The end is fed only to a closed one, and an open
-- one reads.
pub record IsPlaced (g : Given) (size : ℕ) (passes : List Point) (within : Text) (last : ℕ × ℕ) (after_previous : Point)
    (previous : Option ℕ) (byte : ℕ) (waits : Waits) (end_fed closed : Bool) (phase : Phase) : Type 0 where
  pub tab : size ≡ g.tab
  pub end_at : point_at g.tab g.bytes last ≡ Some within.end
  pub text : IsText g within
  pub skips : AllByRecursion (IsSkip g.tab g.bytes within.end) passes
  pub read : IsReadTo g.tab g.bytes passes within after_previous previous
  pub waiting : IsWhatWaits g.tab g.bytes passes within after_previous byte closed waits
  pub ended : end_fed ≡ true → closed ≡ true
  pub reads : closed ≡ false → phase ≡ Reading

-- What is known of the next byte: the bytes of the document, up to which index one is looked for at the place itself, and, if a byte
-- waits, how the place moves over it
pub record NextByteIsKnown (own : List ℕ) (tab : ℕ) (bytes : List ℕ) (skips : List Point) (place : Point) (end plain_until : ℕ) (waits : Waits) (moves : Moves) : Type 0 where
  pub own_bytes : own ≡ bytes
  pub is_plain_until : IsPlainUntil skips place end plain_until
  pub there : waits ≡ Byte → moves ≢ Other → resumed skips place ≡ place
  pub over : waits ≡ Byte → moves ≢ Other → MovesOver tab bytes place moves

-- What holds for the fields: the position, what is known of the next byte, the events, what choices saved, and that no resolver is there twice. For the events it holds
-- until a flush resolves, as resolvers may change them freely.
pub record IsSound {M R D : Type 0} (same : R → R → Bool) (t : Inside M R D) : Type 0 where
  pub placed : IsPlaced (seen t).given t.tab_size t.skips (text_within t) t.end
      t.after_previous t.previous t.byte t.waits t.ended t.closed t.phase
  pub known : NextByteIsKnown t.bytes.now (tab_of t.parse_state.now) t.parse_state.now.bytes.now t.skips t.after_previous t.end.0 t.plain_until t.waits t.moves
  pub made : t.phase ≡ Reading
      → IsMade t.parse_state.now.bytes.now t.events.items t.stack.items
      (shown t.parse_state.now.bytes.now t.after_previous)
      (shown t.parse_state.now.bytes.now (standing t.skips t.after_previous t.waits))
  pub at_places : t.phase ≡ Reading → AreAtPlaces (tab_of t.parse_state.now) t.parse_state.now.bytes.now t.events.items
  pub kept_choices : AreNested
      (IsProgress t.phase (tab_of t.parse_state.now) t.parse_state.now.bytes.now t.skips (text_within t)
      t.events.items t.stack.items t.closed)
      (length t.events.items) (length t.stack.items) (reverse t.kept_choices.items)
  pub once : IsDistinct same t.resolvers.items
