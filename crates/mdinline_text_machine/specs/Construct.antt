-- A construct as a part: what it is, which has no states, and the part of a table that reads it. A machine of constructs is a list of them:
-- its states between constructs are made from the list.
use Rattle.std.specs.Prelude.{ℕ, ◌||◌, Bool, false, cond, List, [], ◌∷◌, ◌++◌, Option, Some, None}
use Rattle.markdown_base.specs.declared.configuration.Constructs.{Constructs}
use Rattle.markdown_base.specs.declared.event.Event.{Event}
use Rattle.markdown_base.specs.declared.event.Name.TheVariants.{Data, LineEnding}
use Rattle.markdown_base.specs.declared.state.Name.{Name}
use Rattle.markdown_base.specs.declared.state.State.TheVariants.{Next, Retry, Ok}
use Rattle.markdown_base.specs.declared.state.TheConstants.Name.{TextBefore, TextBeforeData, DataInside}
use Rattle.markdown_base.specs.Virtual.{Seat}
use Rattle.markdown_tokenizer.specs.declared.waiting.AttemptKind.TheVariants.{Attempt}
use Rattle.markdown_tokenizer.specs.Configuration.{Configuration}
use Rattle.markdown_tokenizer.specs.Sight.{Sight}
use Rattle.markdown_tokenizer.specs.Text.{Given}
use Rattle.mdconstructs_tables.specs.Rows.{enter, exit, consume, choose, a_choice, Rows, row, when, StateRows}

-- What is found does with the brackets that wait before it (CommonMark 0.31, "A parsing strategy"): nothing; it is one, of an image or of a link,
-- and waits; a link or an image is made of the last one; or the last one is taken away, and nothing is made
pub data BracketMark : Type 0 where
  plain : BracketMark
  opens : (image : Bool) → BracketMark
  makes : BracketMark
  fails : BracketMark

-- What is found at the front of a text: how many bytes it has, what it does with brackets, and its events, by the bytes of the document and the
-- virtual bytes of it
pub record Found : Type 0 where
  pub size : ℕ
  pub mark : BracketMark
  pub events : (bytes : List ℕ) → List Seat → List Event

-- What a construct is: the bytes at which it may begin, the option that has it on, and what is there of it at the front of a text, if it is
-- there
pub record Grammar (A : Type 0) : Type 0 where
  pub first : ℕ → Bool
  pub on : Constructs → Bool
  pub front : List ℕ → Option A

-- a construct that the options turn off is never there
abbrev pub if_on : {A : Type 0} → Bool → Option A → Option A
if_on on there = cond on there None

-- what is there, or else another
abbrev pub or_else : {A : Type 0} → Option A → A → A
or_else None other = other
or_else (Some a) other = a

-- what is at the front of a text: the first of the constructs that is there, or else another thing
abbrev pub first_there : {A : Type 0} → List (Grammar A) → Constructs → List ℕ → (other : A) → A
first_there [] on text other = other
first_there (grammar ∷ grammars) on text other = or_else (if_on (grammar.on on) (grammar.front text)) (first_there grammars on text other)

-- one of the constructs may begin at a byte
abbrev pub some_first : {A : Type 0} → List (Grammar A) → ℕ → Bool
some_first [] byte = false
some_first (grammar ∷ grammars) byte = grammar.first byte || some_first grammars byte

-- The names of the states of a machine between constructs: where an item begins, before data, and in data
pub record Between : Type 0 where
  pub home : Name
  pub before_data : Name
  pub inside : Name

-- those of texts
abbrev pub between_texts : Between
between_texts = record { home = TextBefore; before_data = TextBeforeData; inside = DataInside }

-- How a machine reads a construct: what it is; the classes of bytes at which it is tried, and the test by which it is; its states, of which this
-- one is called first; the state that follows if it is not there; which of its states are called only if it is tried, at which class; and which
-- of them go on once a part of it was there
pub record Construct (A W R D : Type 0) : Type 0 where
  pub grammar : Grammar A
  pub begins : W → Bool
  pub allowed : Given → Sight → Configuration R D → Bool
  pub start : Name
  pub otherwise : Name
  pub states : List (StateRows W R D)
  pub begun : Name → Option W → Bool
  pub follows : Name → Bool

-- a construct that needs nothing but its option is tried if that is on
abbrev pub if_option : {A R D : Type 0} → Grammar A → Given → Sight → Configuration R D → Bool
if_option grammar g s k = grammar.on g.options.constructs

-- a state of a construct: it is called if the construct is tried, and so a choice waits
abbrev pub tried : {W R D : Type 0} → StateRows W R D → StateRows W R D
tried state = record state { needs = a_choice }

module _ {A W R D : Type 0} where
  -- what constructs are
  abbrev pub grammars_of : List (Construct A W R D) → List (Grammar A)
  grammars_of [] = []
  grammars_of (c ∷ cs) = c.grammar ∷ grammars_of cs

  -- the states of all of them
  abbrev pub states_of : List (Construct A W R D) → List (StateRows W R D)
  states_of [] = []
  states_of (c ∷ cs) = c.states ++ states_of cs

  -- one of them may begin at a class of bytes
  abbrev pub some_begins : List (Construct A W R D) → W → Bool
  some_begins [] w = false
  some_begins (c ∷ cs) w = c.begins w || some_begins cs w

  -- the state of this name is called only if one of them is tried
  abbrev pub some_begun : List (Construct A W R D) → Name → Option W → Bool
  some_begun [] name w = false
  some_begun (c ∷ cs) name w = c.begun name w || some_begun cs name w

  -- the state of this name goes on once a part of one of them was there
  abbrev pub some_follows : List (Construct A W R D) → Name → Bool
  some_follows [] name = false
  some_follows (c ∷ cs) name = c.follows name || some_follows cs name

  -- a construct is tried if it is allowed; if not, other rows are taken
  abbrev pub tries : (home : Name) → Construct A W R D → Rows R D → Rows R D
  tries home c others = when c.allowed (row (choose Attempt (Next home) (Next c.otherwise) ∷ []) (Retry c.start)) others

  -- what is tried at a class of bytes: the first construct that may begin there and is allowed; if there is none, data is read
  abbrev pub tried_at : Between → List (Construct A W R D) → W → Rows R D
  tried_at names [] w = row [] (Retry names.before_data)
  tried_at names (c ∷ cs) w = cond (c.begins w) (tries names.home c (tried_at names cs w)) (tried_at names cs w)

  -- between constructs: a line ending is read, a construct is tried, or data is read
  abbrev pub before_rows : Between → (ends_line : W → Bool) → List (Construct A W R D) → (previous current : Option W) → Rows R D
  before_rows names ends_line cs _ None = row [] Ok
  before_rows names ends_line cs _ (Some w) = cond (ends_line w) (row (enter LineEnding ∷ consume ∷ exit LineEnding ∷ []) (Next names.home)) (tried_at names cs w)

  -- in data: it ends where a line ending or a construct may begin
  abbrev pub data_rows : Between → (ends_line : W → Bool) → List (Construct A W R D) → (previous current : Option W) → Rows R D
  data_rows names ends_line cs _ None = row (exit Data ∷ []) (Retry names.home)
  data_rows names ends_line cs _ (Some w) = cond (ends_line w || some_begins cs w) (row (exit Data ∷ []) (Retry names.home)) (row (consume ∷ []) (Next names.inside))
