-- The invariant at the states of a table, and the cost of their calls.
use Rattle.std.specs.Prelude.{◌≡◌, ℕ, zero, suc, ◌+◌, ◌-◌, ◌*◌, ◌<◌, ◌≤◌, ◌⊎◌, ◌&&◌, ◌||◌, List, [], ◌∷◌, ◌++◌, Bool, not, true, false, cond, Option, Some, None, IfSome, All, map, max, take, length, reverse, slice_get}
use Rattle.std.specs.List.{last_or}
use Rattle.markdown_base.specs.declared.event.Event.{Event}
use Rattle.markdown_base.specs.declared.event.Kind.TheVariants.{Enter}
use Rattle.markdown_base.specs.declared.event.Name.{Name as EventName}
use Rattle.markdown_base.specs.declared.event.Point.{Point}
use Rattle.markdown_base.specs.declared.state.Name.{Name}
use Rattle.markdown_base.specs.declared.state.State.{State}
use Rattle.markdown_base.specs.declared.state.State.TheVariants.{Next, Retry, Ok, Nok, Error}
use Rattle.markdown_base.specs.Events.{open_events, unlinked}
use Rattle.markdown_base.specs.Places.{stands_before, shown}
use Rattle.markdown_tokenizer.specs.declared.waiting.AttemptKind.{AttemptKind}
use Rattle.markdown_tokenizer.specs.declared.waiting.AttemptKind.TheVariants.{Attempt, Check}
use Rattle.markdown_tokenizer.specs.declared.waiting.Waits.{Waits}
use Rattle.markdown_tokenizer.specs.declared.waiting.Waits.TheVariants.{Nothing, Byte, End}
use Rattle.markdown_tokenizer.specs.Text.{Given, Text}
use Rattle.markdown_tokenizer.specs.Configuration.{Configuration, Local, Choice, Saved, Step, TokenizerValue, at_configuration}
use Rattle.markdown_tokenizer.specs.Sight.{Sight, sight, sight_in, sight_of, end_place, next_place, byte_of}
use Rattle.markdown_tokenizer.specs.Calls.{with_local, consumed, exited, place_of, CanExit}
use Rattle.markdown_tokenizer.specs.Noted.{ArePlaces, IsNoted, CanExitAt, with_enter_at, with_exit_at}
use Rattle.markdown_tokenizer.specs.Rules.{Rules}
use Rattle.markdown_tokenizer.specs.Engine.{EndsWellFormed}
use Rattle.markdown_tokenizer.specs.Plain.{finds_nothing, NothingResolves}
use Rattle.mdconstructs_tables.specs.Rows.{Act, exit, exit_noted, consume, choose, Rows, row, when, Row, Calls, Cost, by_bytes, own, StateRows, Table, class_of, step_of, row_at, named, table_step}
use Rattle.mdconstructs_tables.specs.RowTest.{is_void_last, Stage, byte_waits, Frame, allows_all, first_stage, start_shape, saves, fresh_at, fresh_fed, is_fresh_byte, needs_choice, needs_failing, is_called_at, is_some, is_early, is_behind, never, fits_choice, calls_at}
use Rattle.mdconstructs_tables.specs.Markers.{IsMarkable}

-- the events of a configuration, without the ends of their links
abbrev pub outline : {R D : Type 0} → Configuration R D → List Event
outline k = map unlinked k.events

-- the last event is an enter
abbrev pub EndsWithEnter : List Event → Type 0
EndsWithEnter events = (e : Event) × (last_or None events ≡ Some e) × (e.kind ≡ Enter)

-- Each open span began at a place that passes this test, and so does the place of each event, where the test is of any event
abbrev pub Began : (where_to : (any : Bool) → Point → Bool) → List Event → Type 0
Began where_to events = All (λ e. where_to false e.point ≡ true) (open_events events) × All (λ e. where_to true e.point ≡ true) events

-- before a place, or up to it
abbrev pub upto : Bool → Point → Point → Bool
upto false place q = stands_before q place
upto true place q = not (stands_before place q)

-- where spans may have begun in a call: before the current place; or, if they are fresh, before the end of the byte that waits, or up to
-- the current place; if it is asked of any event, up to the current place
abbrev pub since : Bool → Stage → Sight → (any : Bool) → Point → Bool
since fresh byte_waits s any q = cond fresh (stands_before q s.next) (upto any s.exit_place q)
since fresh _ s any q = upto (fresh || any) s.exit_place q

-- A byte that waits begins before it ends, and what began before the byte, or where the previous one ended, began before its end
pub record SightIsInOrder (waits : Waits) (s : Sight) : Type 0 where
  pub begins : waits ≡ Byte → stands_before s.enter_place s.next ≡ true
  pub later : waits ≡ Byte → (q : Point) → stands_before q s.exit_place ≡ true → stands_before q s.next ≡ true
  pub soon : waits ≡ Byte → (q : Point) → stands_before s.exit_place q ≡ false → stands_before q s.next ≡ true

-- what waits is a byte of the text, or the end once it was fed, if no byte is left
abbrev pub IsFed : Waits → ℕ → Bool → Text → Type 0
IsFed Nothing position ended text = ⊥
IsFed Byte position ended text = position < length text.seats
IsFed End position ended text = (ended ≡ true) × (length text.seats ≤ position)

-- the place of an exit after this many bytes
abbrev pub exit_place_at : Given → Text → ℕ → Point
exit_place_at g text position = shown g.bytes (end_place text position)

-- the class of the byte at a position, if one is there
abbrev pub class_in : {W : Type 0} → (ℕ → W) → Text → ℕ → Option W
class_in class text p = class_of class (byte_of (slice_get text.seats p))

-- a byte was read
abbrev pub is_read : ℕ → Bool
is_read zero = false
is_read (suc before) = true

-- a choice waits
abbrev pub AnyWait : List Choice → Type 0
AnyWait [] = ⊥
AnyWait (c ∷ cs) = Unit {0}

-- a choice goes on after Nok with what does not fail, or with Nok, and then this holds
abbrev pub GoesBack : (nok : State) → Type 0 → Type 0
GoesBack Nok P = P
GoesBack nok P = Unit {0}

-- a choice waits that goes back after Nok
abbrev pub AnyGoesBack : List Choice → Type 0
AnyGoesBack [] = ⊥
AnyGoesBack (c ∷ cs) = GoesBack c.nok (AnyGoesBack cs)

-- a choice waits if the test says so, and one that goes back after Nok if it says that
abbrev pub MayEnd : (within failing : Bool) → List Choice → Type 0
MayEnd within failing choices = (within ≡ true → AnyWait choices) × (failing ≡ true → AnyGoesBack choices)

-- before the end of the byte that is next at a position
abbrev pub before_next : Given → Text → ℕ → Point → Bool
before_next g text p q = stands_before q (shown g.bytes (next_place text p Byte))

-- where spans may have begun at a position: if they are fresh, before the end of the byte that is next there, or, if that is not known, where
-- the previous byte ended
abbrev pub began_there : (fresh byte : Bool) → Given → Text → ℕ → (any : Bool) → Point → Bool
began_there true true g text p any q = before_next g text p q
began_there fresh _ g text p any q = upto (fresh || any) (exit_place_at g text p) q

-- where the spans of a frame may have begun, if the choice was made at this position
abbrev pub began_in : {W : Type 0} → Frame W → Given → Text → ℕ → (any : Bool) → Point → Bool
began_in f g text p = began_there f.fresh (is_some f.waits) g text p

-- Where the spans of a state may have begun before it is fed at this position: where the previous byte ended; or before the end of the byte
-- that is next in the text, if it says so of that byte
abbrev pub began_unfed : {W R D : Type 0} → (ℕ → W) → Given → Text → ℕ → StateRows W R D → (any : Bool) → Point → Bool
began_unfed class g text p state any q =
    upto (fresh_fed state.begun || any) (exit_place_at g text p) q || (is_fresh_byte state.begun (class_in class text p) && before_next g text p q)

-- What a choice saved: the stack at that time, a position up to this one, events that are a front of these, with the spans as they were
-- then, and the byte that waited
pub record IsSavedIn {W : Type 0} (class : ℕ → W) (g : Given) (text : Text) (position : ℕ) (events : List Event) (stack : List EventName) (f : Frame W) (saved : Saved) : Type 0 where
  pub stack_is : saved.stack ≡ stack
  pub behind : saved.position ≤ position
  pub within : saved.events ≤ length events
  pub began : Began (began_in f g text saved.position) (take saved.events events)
  pub void : is_void_last (last_or None f.spans) ≡ true → EndsWithEnter (take saved.events events)
  pub waits : (w : W) → f.waits ≡ Some w → class_in class text saved.position ≡ Some w

-- a choice saved exactly if it has to, and what it saved is as its frame says
abbrev pub IsSaved : {W : Type 0} → (ℕ → W) → Given → Text → ℕ → List Event → List EventName → Frame W → Bool → Option Saved → Type 0
IsSaved class g text position events stack f true (Some saved) = IsSavedIn class g text position events stack f saved
IsSaved class g text position events stack f false None = Unit {0}
IsSaved class g text position events stack f _ _ = ⊥

-- the position where a choice was made, or this one if it saved none
abbrev pub position_of : Option Saved → ℕ → ℕ
position_of None position = position
position_of (Some saved) position = saved.position

-- the events that a choice saved, or these if it saved none
abbrev pub events_saved : Option Saved → List Event → List Event
events_saved None events = events
events_saved (Some saved) events = take saved.events events

-- the stack that a choice saved is no longer than this one
abbrev pub IsBelow : List EventName → Choice → Type 0
IsBelow stack c = IfSome c.saved (λ saved. length saved.stack ≤ length stack)

module _ {W R D : Type 0} (class : ℕ → W) (states : List (StateRows W R D)) where
  -- A choice that waits fits at the place where it was made, above these spans
  pub record IsWaiting (g : Given) (text : Text) (position : ℕ) (events : List Event) (stack : List EventName) (c : Choice) (cs : List Choice) : Type 0 where
    pub frame : Frame W
    pub below : List EventName
    pub stack_is : stack ≡ below ++ frame.spans
    pub fits : fits_choice states frame c.kind c.ok c.nok ≡ true
    pub saved : IsSaved class g text position events stack frame (saves c.kind c.nok) c.saved
    pub within : MayEnd frame.within frame.failing cs

  -- Choices wait above these spans, each within what the one made after it saved
  abbrev pub AreWaiting : Given → Text → ℕ → List Event → List EventName → List Choice → Type 0
  AreWaiting g text position events stack [] = stack ≡ []
  AreWaiting g text position events stack (c ∷ cs) =
      (w : IsWaiting g text position events stack c cs) × AreWaiting g text (position_of c.saved position) (events_saved c.saved events) w.below cs

-- what waits at a position: a byte, or the end
abbrev pub Stands : {W : Type 0} → Option W → Text → ℕ → Type 0
Stands None text p = length text.seats ≤ p
Stands (Some w) text p = p < length text.seats

-- the cost of a state: by the calls that it says are left, or its own
abbrev pub price_by : Cost → Text → ℕ → (Calls → ℕ) → ℕ
price_by (by_bytes c) text p counted = counted c
price_by (own f) text p counted = f text p

-- a question that is asked of a state only if it has a cost of its own, and another one
abbrev pub and_of_own : Cost → ((Text → ℕ → ℕ) → Type 0) → Type 0 → Type 0
and_of_own (by_bytes c) asked other = other
and_of_own (own f) asked other = asked f × other

-- the cost of a state's own, if it has one
abbrev pub own_cost : Cost → Text → ℕ → ℕ
own_cost (by_bytes c) text p = 0
own_cost (own f) text p = f text p

-- from which position on what goes on at this one, where this waits, may end a choice with Ok
abbrev pub answer_end : {W : Type 0} → (early : Name → Option W → Bool) → Option W → ℕ → State → ℕ
answer_end early w p answer = cond (is_early early w answer) (p + 1) p

-- the same of acts that begin at a position, and what is returned after them
abbrev pub ends_at : {W R D : Type 0} → (early : Name → Option W → Bool) → Option W → ℕ → List (Act R D) → (answer : State) → ℕ
ends_at early w p acts answer = cond (is_behind early w acts answer) (p + 1) p

-- how many calls that is, with this many bytes left
abbrev pub at_most : Calls → ℕ → ℕ
at_most c n = c.per_byte * n + c.more

-- where the spans of a state may have begun, by what waits, if anything does
abbrev pub began_at : {W R D : Type 0} → Option W → StateRows W R D → Sight → (any : Bool) → Point → Bool
began_at w state s = since (fresh_at state.begun w) (first_stage w) s

-- Spans of a state are open above others: each open span began at a place that passes this test, and if the innermost is void, no event came since it
-- began. What must wait for the state is next in the text.
pub record IsOpen {W R D : Type 0} (class : ℕ → W) (state : StateRows W R D) (base : List EventName) (where_to : (any : Bool) → Point → Bool) (text : Text) (k : Configuration R D) (choices : List Choice) : Type 0 where
  pub stack : k.stack ≡ base ++ state.spans
  pub began : Began where_to (outline k)
  pub void : is_void_last (last_or None state.spans) ≡ true → EndsWithEnter (outline k)
  pub below : All (IsBelow base) choices
  pub needs : let read = is_read k.position in MayEnd (needs_choice state.needs read) (needs_failing state.needs read) choices
  pub called : is_called_at state.called k.ended (class_in class text k.position) ≡ true

-- The place of the byte at a position was noted: each open span began before it, and no event is after it
pub record IsNotedAt {R D : Type 0} (g : Given) (text : Text) (position : ℕ) (k : Configuration R D) : Type 0 where
  pub is : k.local.noted ≡ place_of (sight_in g text position Byte)
  pub began : Began (λ any. upto any k.local.noted.exit) (outline k)

-- The place of a byte that was read since was noted, and so it is before the current place
pub record IsNotedBefore {R D : Type 0} (g : Given) (text : Text) (now : Point) (k : Configuration R D) : Type 0 where
  pub position : ℕ
  pub read : position < k.position
  pub at : IsNotedAt g text position k
  pub exit_before : stands_before k.local.noted.exit now ≡ true
  pub enter_before : stands_before k.local.noted.enter now ≡ true

-- what is asked of a state only if it is called where a place was noted
abbrev pub WhereNoted : (is_noted : Bool) → Type 0 → Type 0
WhereNoted false asked = Unit {0}
WhereNoted true asked = asked

-- a state that says so is called where a place was noted before
abbrev pub KnowsNoted : {W R D : Type 0} → Given → Text → StateRows W R D → Configuration R D → Type 0
KnowsNoted g text state k = WhereNoted state.noted (IsNotedBefore g text (exit_place_at g text k.position) k × ArePlaces g k.local.noted)

-- A call began: it is counted, and the machine's own fields were written
abbrev pub begun : {M R D : Type 0} → (Local R D → Local R D) → TokenizerValue M R D → TokenizerValue M R D
begun first t = record t { configuration = with_local t.configuration (first t.configuration.local); calls = t.calls + 1 }

-- A state did a step: it returned the step's state, the step's choices wait above the old ones, and the configuration is the step's
pub record DoesAll {M R D : Type 0} (s : Step R D) (old new : TokenizerValue M R D) (answer : State) : Type 0 where
  pub answered : answer ≡ s.answer
  pub became : new ≡ record old { configuration = s.configuration; choices = s.choices ++ old.choices }

-- A state is called: something waits, and open spans and choices are as the state says
pub record IsAtState {M W R D : Type 0} (class : ℕ → W) (state : StateRows W R D) (t : TokenizerValue M R D) : Type 0 where
  pub inside : t.configuration.position ≤ length t.text.seats
  pub fed : IsFed t.configuration.waiting t.configuration.position t.configuration.ended t.text
  pub in_order : SightIsInOrder t.configuration.waiting (sight_of t)
  pub base : List EventName
  pub spans : IsOpen class state base (began_at (class_of class (sight_of t).current) state (sight_of t)) t.text t.configuration t.choices
  pub noted : KnowsNoted t.given t.text state t.configuration

-- once the byte that waits is consumed
abbrev pub once_read : {M R D : Type 0} → TokenizerValue M R D → TokenizerValue M R D
once_read t = at_configuration t (consumed t.configuration)

-- the innermost spans may end under these names, one after another
abbrev pub CanEnd : {M R D : Type 0} → List EventName → TokenizerValue M R D → Type 0
CanEnd [] t = Unit {0}
CanEnd (name ∷ names) t = CanExit name t × CanEnd names (at_configuration t (exited name (sight_of t).exit_place t.configuration))

-- A span may begin at the place that was noted, and end here
pub record CanHoldNoted {M R D : Type 0} (t : TokenizerValue M R D) : Type 0 where
  pub begins : IsNoted t.configuration.local.noted.enter t
  pub ends : (name : EventName) → CanExit name (with_enter_at name t.configuration.local.noted.enter t)

-- the innermost spans may end at the place that was noted, one after another, and behind each of them another one may begin there
abbrev pub CanEndNoted : {M R D : Type 0} → List EventName → TokenizerValue M R D → Type 0
CanEndNoted [] t = CanHoldNoted t
CanEndNoted (name ∷ names) t =
    let place = t.configuration.local.noted.exit in
    CanHoldNoted t × IsNoted place t × CanExitAt name place t × CanEndNoted names (with_exit_at name place t)

-- the acts at the beginning of a state that is called pass the test of acts
abbrev pub are_allowed : {M W R D : Type 0} → (ℕ → W) → StateRows W R D → TokenizerValue M R D → List (Act R D) → Bool
are_allowed class state t acts = allows_all acts (start_shape (class_of class (sight_of t).previous) (class_of class (sight_of t).current) state)

-- A state can be called. The fields are what its code needs to know. A byte waits if the state is never called at the end. Once the byte is
-- consumed, the place of an exit is its end. The byte can be a span of its own. And all spans of the state may end, before the byte or
-- after it, if the test allows that. If a place was noted before, they may end there.
pub record IsCallable {M W R D : Type 0} (class : ℕ → W) (state : StateRows W R D) (t : TokenizerValue M R D) : Type 0 where
  pub called : IsAtState class state t
  pub byte : is_called_at state.called true None ≡ false → t.configuration.waiting ≡ Byte
  pub stands : t.configuration.waiting ≡ Byte → (sight_of (once_read t)).exit_place ≡ (sight_of t).next
  pub marks : t.configuration.waiting ≡ Byte → IsMarkable t
  pub ends : are_allowed class state t (map exit (reverse state.spans)) ≡ true → CanEnd (reverse state.spans) t
  pub ends_read : are_allowed class state t (consume ∷ map exit (reverse state.spans)) ≡ true → CanEnd (reverse state.spans) (once_read t)
  pub ends_noted : WhereNoted state.noted (are_allowed class state t (map exit_noted (reverse state.spans)) ≡ true → CanEndNoted (reverse state.spans) t)

-- the step of a state in a tokenizer
abbrev pub step_in : {M W R D : Type 0} → (class : ℕ → W) → StateRows W R D → TokenizerValue M R D → Step R D
step_in class state t = step_of (row_at class state t.given (sight_of t) t.configuration) (sight_of t) t.configuration

module _ {W R D : Type 0} (table : Table W R D) where
  -- Open spans, choices and the place that was noted are as a state says
  pub record IsAt (g : Given) (text : Text) (state : StateRows W R D) (where_to : (any : Bool) → Point → Bool) (k : Configuration R D) (choices : List Choice) : Type 0 where
    pub base : List EventName
    pub spans : IsOpen table.class state base where_to text k choices
    pub noted : KnowsNoted g text state k
    pub waiting : AreWaiting table.class table.states g text k.position (outline k) base choices

  -- the same for the state of a name, if there is one
  abbrev pub IsStateAt : Given → Text → Option (StateRows W R D) → (StateRows W R D → (any : Bool) → Point → Bool) → Configuration R D → List Choice → Type 0
  IsStateAt g text None where_to k choices = ⊥
  IsStateAt g text (Some state) where_to k choices = IsAt g text state (where_to state) k choices

  -- Ok: no span is open since the last choice, and a choice waits, or the end was fed
  pub record IsDone (g : Given) (text : Text) (k : Configuration R D) (choices : List Choice) : Type 0 where
    pub base : List EventName
    pub stack : k.stack ≡ base
    pub began : Began (λ any. upto any (exit_place_at g text k.position)) (outline k)
    pub waiting : AreWaiting table.class table.states g text k.position (outline k) base choices
    pub ended : AnyWait choices ⊎ (k.ended ≡ true)

  -- Nok: a choice waits that goes back
  pub record IsFailing (g : Given) (text : Text) (k : Configuration R D) (choices : List Choice) : Type 0 where
    pub base : List EventName
    pub waiting : AreWaiting table.class table.states g text k.position (outline k) base choices
    pub any : AnyGoesBack choices

  -- the invariant at a state that a call returned
  abbrev pub HoldsAt : Given → Text → Configuration R D → List Choice → State → Type 0
  HoldsAt g text k choices (Next name) = (k.waiting ≡ Nothing) × IsStateAt g text (named table.states name) (began_unfed table.class g text k.position) k choices
  HoldsAt g text k choices (Retry name) =
      IsFed k.waiting k.position k.ended text × SightIsInOrder k.waiting (sight g text k)
      × IsStateAt g text (named table.states name) (λ state. began_at (class_of table.class (sight g text k).current) state (sight g text k)) k choices
  HoldsAt g text k choices Ok = IsDone g text k choices
  HoldsAt g text k choices Nok = IsFailing g text k choices
  HoldsAt g text k choices (Error message) = Unit {0}

  -- the invariant: no more was read than there is, and spans and choices are as the current state says
  abbrev pub table_holds : Given → Text → Configuration R D → List Choice → State → Type 0
  table_holds g text k choices state = (k.position ≤ length text.seats) × HoldsAt g text k choices state

  -- how many calls a state may take that is fed first, if this many bytes were read
  abbrev pub next_price : Text → ℕ → Option (StateRows W R D) → ℕ
  next_price text p None = 0
  next_price text p (Some state) = price_by state.cost text p (λ c. at_most c (length text.seats - p))

  -- the same for a state that is called while this waits
  abbrev pub retry_price : (previous current : Option W) → Text → ℕ → Option (StateRows W R D) → ℕ
  retry_price b w text p None = 0
  retry_price b w text p (Some state) =
      price_by state.cost text p (λ c. at_most (calls_at table.states table.states b w (Some state)) (length text.seats - p - 1))

  -- how many calls a state may take that comes next at this position
  abbrev pub state_price : Text → ℕ → State → ℕ
  state_price text p (Next name) = next_price text p (named table.states name)
  state_price text p _ = 0

  -- How many calls a choice may take with what it goes on with. An attempt goes on after Ok where that comes first, `later`; else a choice
  -- goes on where it was made
  abbrev pub choice_price : Text → (later made_at : ℕ) → AttemptKind → State → State → ℕ
  choice_price text later made_at Attempt ok nok = max (state_price text later ok) (state_price text made_at nok)
  choice_price text later made_at Check ok nok = max (state_price text made_at ok) (state_price text made_at nok)

  -- The choices that are made, by what is returned after them. Once a byte was read, what waits is not known, and no state is early
  abbrev pub chosen_price : (early : Name → Option W → Bool) → Option W → Text → ℕ → List (Act R D) → (answer : State) → ℕ
  chosen_price early w text p [] answer = 0
  chosen_price early w text p (choose kind ok nok ∷ acts) answer =
      choice_price text (ends_at early w p acts answer) p kind ok nok + chosen_price early w text p acts answer
  chosen_price early w text p (consume ∷ acts) answer = chosen_price never w text (p + 1) acts answer
  chosen_price early w text p (act ∷ acts) answer = chosen_price early w text p acts answer

  -- how many calls the state that a call returns may take, if this many bytes were read at the beginning of the call
  abbrev pub answer_price : (previous current : Option W) → Text → ℕ → State → ℕ
  answer_price b w text p (Next name) = next_price text (p + 1) (named table.states name)
  answer_price b w text p (Retry name) = retry_price b w text p (named table.states name)
  answer_price b w text p _ = 0

  -- how many calls a row may take: itself, the state that it returns, and its choices
  abbrev pub row_price : (early : Name → Option W → Bool) → (previous current : Option W) → Text → ℕ → Row R D → ℕ
  row_price early b w text p r = 1 + (answer_price b w text p r.answer + chosen_price early w text p r.acts r.answer)

  -- each of the rows is within a price
  abbrev pub AreWithin : (early : Name → Option W → Bool) → (previous current : Option W) → Text → ℕ → ℕ → Rows R D → Type 0
  AreWithin early b w text p price (row acts answer) = row_price early b w text p (record { acts = acts; answer = answer }) ≤ price
  AreWithin early b w text p price (when test one other) = AreWithin early b w text p price one × AreWithin early b w text p price other

  -- the class of the byte at a position
  abbrev pub class_at : Text → ℕ → Option W
  class_at text p = class_in table.class text p

  -- a state's own cost is enough for each of its rows, if this waits
  abbrev pub PaysRows : (early : Name → Option W → Bool) → StateRows W R D → Type 0
  PaysRows early state =
      (b w : Option W) (text : Text) (p : ℕ) → is_some b ≡ is_read p → Stands w text p → class_at text p ≡ w → is_called_at state.called true w ≡ true
      → AreWithin early b w text p (own_cost state.cost text p) (state.rows b w)

  -- the costs of states' own are enough
  abbrev pub ArePaid : (early : Name → Option W → Bool) → List (StateRows W R D) → Type 0
  ArePaid early [] = Unit {0}
  ArePaid early (state ∷ states) = and_of_own state.cost (λ f. PaysRows early state) (ArePaid early states)

  -- how many calls are left; a byte that waits is counted with the state that is called there
  abbrev pub table_cost : Given → Text → Configuration R D → State → ℕ
  table_cost g text k (Next name) = next_price text k.position (named table.states name)
  table_cost g text k (Retry name) =
      let s = sight g text k in retry_price (class_of table.class s.previous) (class_of table.class s.current) text k.position (named table.states name)
  table_cost g text k _ = 0

  module _ (early : Name → Option W → Bool) where
    -- from which position on what goes on at this one may end a choice with Ok
    abbrev pub first_end : Text → ℕ → State → ℕ
    first_end text p a = answer_end early (class_at text p) p a

    -- a state goes on at a position, above choices that may take this much, by where they end with Ok first
    abbrev pub goes_on_price : (below : ℕ → ℕ) → Text → ℕ → State → ℕ
    goes_on_price below text p a = state_price text p a + below (first_end text p a)

    -- How many calls a choice that waits and the ones below it may take, if it ends with Ok at this position or behind it. An attempt goes
    -- on there; after Nok, and a check after both, the choice goes on where it was made. One that saved nothing fails where it is.
    abbrev pub waiting_or_below : (below : ℕ → ℕ) → Text → (later : ℕ) → AttemptKind → Option Saved → (ok nok : State) → ℕ
    waiting_or_below below text later Attempt None ok nok = max (goes_on_price below text later ok) (below later)
    waiting_or_below below text later Attempt (Some saved) ok nok = max (goes_on_price below text later ok) (goes_on_price below text saved.position nok)
    waiting_or_below below text later Check (Some saved) ok nok =
        max (goes_on_price below text saved.position ok) (goes_on_price below text saved.position nok)
    waiting_or_below below text later Check None ok nok = 0

    -- how many calls all choices that wait may take, if the last one ends with Ok at this position or behind it
    abbrev pub waiting_price : Text → (later : ℕ) → List Choice → ℕ
    waiting_price text later [] = 0
    waiting_price text later (c ∷ cs) = waiting_or_below (λ p. waiting_price text p cs) text later c.kind c.saved c.ok c.nok

    -- how many calls a state and all choices that wait may take
    abbrev pub table_price : Given → Text → Configuration R D → List Choice → State → ℕ
    table_price g text k choices state = table_cost g text k state + waiting_price text (first_end text k.position state) choices

-- the rules of a table; it promises that its final events are well formed
abbrev pub table_rules : {W R D : Type 0} → Table W R D → Given → Rules R D
table_rules table g = record {
  step = table_step table g;
  holds = table_holds table g;
  cost = table_price table never g;
  starts = table.starts;
  resolver = finds_nothing;
  resolves = NothingResolves (EndsWellFormed g);
  ends = EndsWellFormed g;
}
