-- Tables of rows: what the states of a machine do.
use Rattle.std.specs.Prelude.{ℕ, ◌∷◌, ◌==◌, List, [], Bool, false, cond, Option, Some, None}
use Rattle.markdown_base.specs.declared.event.Link.{Link}
use Rattle.markdown_base.specs.declared.event.Name.{Name as EventName}
use Rattle.markdown_base.specs.declared.state.Name.{Name}
use Rattle.markdown_base.specs.declared.state.State.{State}
use Rattle.markdown_base.specs.declared.state.State.TheVariants.{Nok}
use Rattle.markdown_tokenizer.specs.declared.waiting.AttemptKind.{AttemptKind}
use Rattle.markdown_tokenizer.specs.declared.waiting.AttemptKind.TheVariants.{Attempt, Check}
use Rattle.markdown_tokenizer.specs.Text.{Given, Text}
use Rattle.markdown_tokenizer.specs.Configuration.{Configuration, Local, Choice, Step}
use Rattle.markdown_tokenizer.specs.Sight.{Sight}
use Rattle.markdown_tokenizer.specs.Calls.{consumed, entered, exited, linked, with_local, noting, place_of, attempt_at, check_at}

-- What a state does in a call, one after another. A write is by what is seen, as the byte that waits, and by the configuration. A choice has
-- its kind, and what it goes on with after Ok and after Nok. The place of the byte that waits may be noted, so that a span ends, or one begins,
-- there later, once bytes behind it were read.
pub data Act (R D : Type 0) : Type 0 where
  enters : EventName → Option Link → Act R D
  exit : EventName → Act R D
  consume : Act R D
  links : (previous next : Configuration R D → ℕ) → Act R D
  writes : (Sight → Configuration R D → Local R D) → Act R D
  choose : AttemptKind → (ok nok : State) → Act R D
  note : Act R D
  exit_noted : EventName → Act R D
  enter_noted : EventName → Act R D

-- a span begins, without a link or with one
abbrev pub enter : {R D : Type 0} → EventName → Act R D
enter name = enters name None

-- a span begins with a link
abbrev pub enter_link : {R D : Type 0} → EventName → Link → Act R D
enter_link name link = enters name (Some link)

-- a write of what states share, by the configuration alone: it looks at no byte
abbrev pub write : {R D : Type 0} → (Configuration R D → Local R D) → Act R D
write f = writes (λ s. f)

-- What a state does if this waits, and what it returns: a row, or one of two by a test of options, sight and configuration
pub data Rows (R D : Type 0) : Type 0 where
  row : List (Act R D) → State → Rows R D
  when : (Given → Sight → Configuration R D → Bool) → Rows R D → Rows R D → Rows R D

-- one row
pub record Row (R D : Type 0) : Type 0 where
  pub acts : List (Act R D)
  pub answer : State

-- How many calls are left at most: a number for each byte that is left, and a number more
pub record Calls : Type 0 where
  pub per_byte : ℕ
  pub more : ℕ

-- What a state costs: how many calls are left before the next byte is fed, by how many bytes are left; or a cost of its own, by the text and
-- the number of bytes read
pub data Cost : Type 0 where
  by_bytes : Calls → Cost
  own : (Text → ℕ → ℕ) → Cost

-- Where the spans of a state may have begun: before the place of the call; at the byte that waits, if it is one of these; or where the
-- previous byte ended, and so at whatever waits
pub data Begun (W : Type 0) : Type 0 where
  before : Begun W
  at_byte : (W → Bool) → Begun W
  here : Begun W

-- Which choices a state needs: none; one that waits; one that waits once a byte was read; or one that waits for Ok, which the state and
-- those that it goes on with never end with Nok
pub data Needs : Type 0 where
  nothing : Needs
  a_choice : Needs
  a_choice_once_read : Needs
  a_choice_for_ok : Needs

-- What must wait when a state is called: a byte or the end; a byte; one of these bytes; or one of these bytes or the end
pub data Called (W : Type 0) : Type 0 where
  anywhere : Called W
  at_a_byte : Called W
  at_bytes : (W → Bool) → Called W
  at_bytes_or_end : (W → Bool) → Called W

-- A state: its name, and its rows by the class of the previous byte and of what waits; None is the start and the end. The other fields are
-- tested: the spans that are open when it is called, since the last choice was made, the outermost first; where they may have begun; which
-- choices it needs; what must wait; whether a place was noted before, and no event came since; and what it costs.
pub record StateRows (W R D : Type 0) : Type 0 where
  pub name : Name
  pub rows : (previous current : Option W) → Rows R D
  pub spans : List EventName
  pub begun : Begun W
  pub needs : Needs
  pub called : Called W
  pub noted : Bool
  pub cost : Cost

-- A machine: the class of a byte, what each call writes first, its states, and the names with which it may start
pub record Table (W R D : Type 0) : Type 0 where
  pub class : ℕ → W
  pub first : Local R D → Local R D
  pub states : List (StateRows W R D)
  pub starts : List Name

-- A cost of a state's own, if it is not a number of calls for each byte: by the text, and how many of its bytes were read. To find it,
-- begin at the end: a state that ends costs one call. Any other costs one more than the state that it goes on with and its choices
-- together.
abbrev pub costs : (Text → ℕ → ℕ) → Cost
costs f = own f

-- at most this many calls for each byte, and this many more
abbrev pub calls : (per_byte more : ℕ) → Cost
calls per_byte more = by_bytes (record { per_byte = per_byte; more = more })

-- a state that needs nothing, and whose spans began before; it knows of no place that was noted
abbrev pub state : {W R D : Type 0} → Name → ((previous current : Option W) → Rows R D) → List EventName → Cost → StateRows W R D
state name rows spans cost = record { name = name; rows = rows; spans = spans; begun = before; needs = nothing; called = anywhere; noted = false; cost = cost }

-- what is seen once the byte that waited is consumed: the place of enters and exits is after it
abbrev pub past : Sight → Sight
past s = record { previous = s.current; current = None; point = s.next; enter_place = s.next; exit_place = s.next; next = s.next }

-- what a write sees: the point is where an enter would be
abbrev pub shown_sight : Sight → Sight
shown_sight s = record s { point = s.enter_place }

-- the class of what waits, or of the previous byte; None is the end, or the start
abbrev pub class_of : {W : Type 0} → (ℕ → W) → Option ℕ → Option W
class_of class None = None
class_of class (Some byte) = Some (class byte)

module _ {R D : Type 0} where
  -- what one act makes of the configuration
  abbrev pub done : Act R D → Sight → Configuration R D → Configuration R D
  done (enters name link) s k = entered name link s.enter_place k
  done (exit name) s k = exited name s.exit_place k
  done consume s k = consumed k
  done (links previous next) s k = linked (previous k) (next k) k
  done (writes f) s k = with_local k (f (shown_sight s) k)
  done (choose kind ok nok) s k = k
  done note s k = noting (place_of s) k
  done (exit_noted name) s k = exited name k.local.noted.exit k
  done (enter_noted name) s k = entered name None k.local.noted.enter k

  -- what is seen after it
  abbrev pub seen_after : Act R D → Sight → Sight
  seen_after consume s = past s
  seen_after _ s = s

  -- the choice that is made, by its kind
  abbrev pub choice_made_at : AttemptKind → State → State → Configuration R D → Choice
  choice_made_at Attempt ok nok k = attempt_at ok nok k
  choice_made_at Check ok nok k = check_at ok nok k

  -- which choices wait after it
  abbrev pub with_choice_of : Act R D → Configuration R D → List Choice → List Choice
  with_choice_of (choose kind ok nok) k choices = choice_made_at kind ok nok k ∷ choices
  with_choice_of _ k choices = choices

  -- acts, one after another
  abbrev pub does : List (Act R D) → Sight → Configuration R D → Configuration R D
  does [] s k = k
  does (act ∷ acts) s k = does acts (seen_after act s) (done act s k)

  -- the choices that wait after acts, the last one first
  abbrev pub chooses : List (Act R D) → Sight → Configuration R D → List Choice → List Choice
  chooses [] s k choices = choices
  chooses (act ∷ acts) s k choices = chooses acts (seen_after act s) (done act s k) (with_choice_of act k choices)

  -- the row that the tests pick
  abbrev pub picked : Rows R D → Given → Sight → Configuration R D → Row R D
  picked (row acts answer) g s k = record { acts = acts; answer = answer }
  picked (when test one other) g s k = cond (test g s k) (picked one g s k) (picked other g s k)

  -- the step of a row
  abbrev pub step_of : Row R D → Sight → Configuration R D → Step R D
  step_of r s k = record { configuration = does r.acts s k; choices = chooses r.acts s k []; answer = r.answer }

module _ {W R D : Type 0} where
  -- the row of what is seen
  abbrev pub row_at : (ℕ → W) → StateRows W R D → Given → Sight → Configuration R D → Row R D
  row_at class state g s k = picked (state.rows (class_of class s.previous) (class_of class s.current)) g s k

  -- the state of a name, if it is one of these
  abbrev pub named : List (StateRows W R D) → Name → Option (StateRows W R D)
  named [] name = None
  named (state ∷ states) name = cond (name.number == state.name.number) (Some state) (named states name)

  -- a name that is no state of the table is never called
  abbrev pub step_at : Table W R D → Given → Option (StateRows W R D) → Sight → Configuration R D → Step R D
  step_at table g None s k = record { configuration = k; choices = []; answer = Nok }
  step_at table g (Some state) s k = step_of (row_at table.class state g s k) s k

  -- the step of the call of a name
  abbrev pub table_step : Table W R D → Given → Sight → Configuration R D → Name → Step R D
  table_step table g s k name = step_at table g (named table.states name) s (with_local k (table.first k.local))
