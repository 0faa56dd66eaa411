-- What a machine sees and changes: a configuration, the choices that wait, and the step of a call.
use Rattle.std.specs.Prelude.{ℕ, List, [], Bool, false, Option, None}
use Rattle.markdown_base.specs.declared.event.Event.{Event}
use Rattle.markdown_base.specs.declared.event.Name.{Name}
use Rattle.markdown_base.specs.declared.event.Name.TheVariants.{Data, SpaceOrTab}
use Rattle.markdown_base.specs.declared.state.State.{State}
use Rattle.markdown_base.specs.Virtual.{point}
use Rattle.markdown_tokenizer.specs.declared.tokenizer.noted.Noted.{Noted}
use Rattle.markdown_tokenizer.specs.declared.tokenizer.state.TokenizeState.{TokenizeState}
use Rattle.markdown_tokenizer.specs.declared.waiting.Waits.{Waits}
use Rattle.markdown_tokenizer.specs.declared.waiting.Waits.TheVariants.{Nothing}
use Rattle.markdown_tokenizer.specs.declared.waiting.Phase.{Phase}
use Rattle.markdown_tokenizer.specs.declared.waiting.Phase.TheVariants.{Reading}
use Rattle.markdown_tokenizer.specs.declared.waiting.AttemptKind.{AttemptKind}
use Rattle.markdown_tokenizer.specs.Text.{Given, Text}
use Rattle.markdown_edits.specs.Edits.{Edit}

-- What states may write, other than events and stack
pub record Local (R D : Type 0) : Type 0 where
  pub tokenize_state : TokenizeState D
  pub map : List Edit
  pub resolvers : List R
  pub interrupt : Bool
  pub concrete : Bool
  pub pierce : Bool
  pub lazy : Bool
  pub noted : Noted

-- How many bytes of the text were read, what waits, whether the end was fed there, and what the states made
pub record Configuration (R D : Type 0) : Type 0 where
  pub position : ℕ
  pub waiting : Waits
  pub ended : Bool
  pub events : List Event
  pub stack : List Name
  pub local : Local R D

-- What a choice puts back: how many bytes were read, whether the end was fed there, how many events there were, and the stack
pub record Saved : Type 0 where
  pub position : ℕ
  pub ended : Bool
  pub events : ℕ
  pub stack : List Name

-- A waiting choice: what it goes on with after Ok and after Nok, and what it puts back
pub record Choice : Type 0 where
  pub kind : AttemptKind
  pub ok : State
  pub nok : State
  pub saved : Option Saved

-- The result of the call of a state: the configuration, the choices that it pushed, the last first, and the state that it returns
pub record Step (R D : Type 0) : Type 0 where
  pub configuration : Configuration R D
  pub choices : List Choice
  pub answer : State

-- What a contract sees of a tokenizer. Only contracts see the count of calls; if it is closed, nothing more is pushed; the phase says
-- whether a flush resolves, or has resolved
pub record TokenizerValue (M R D : Type 0) : Type 0 where
  pub given : Given
  pub machine : M
  pub text : Text
  pub configuration : Configuration R D
  pub choices : List Choice
  pub calls : ℕ
  pub closed : Bool
  pub phase : Phase

-- what states share, before any was called
abbrev pub start_state : {D : Type 0} → TokenizeState D
start_state = record {
  document = None;
  document_child_state = None;
  document_container_stack = [];
  document_continued = 0;
  document_data_index = None;
  document_exits = [];
  document_lazy_accepting_before = false;
  document_at_first_paragraph_of_list_item = false;
  space_or_tab_eol_content = None;
  space_or_tab_eol_connect = false;
  space_or_tab_eol_ok = false;
  space_or_tab_connect = false;
  space_or_tab_content = None;
  space_or_tab_min = 0;
  space_or_tab_max = 0;
  space_or_tab_size = 0;
  space_or_tab_token = SpaceOrTab;
  label_starts = [];
  label_starts_loose = [];
  labels = [];
  definitions = [];
  gfm_footnote_definitions = [];
  connect = false;
  marker = 0;
  marker_b = 0;
  markers = [];
  seen = false;
  size = 0;
  size_b = 0;
  size_c = 0;
  start = 0;
  end = 0;
  token_1 = Data;
  token_2 = Data;
  token_3 = Data;
  token_4 = Data;
  token_5 = Data;
  token_6 = Data;
}

-- the place that is noted before any was
abbrev pub start_noted : Noted
start_noted = record { exit = point 1 1 0 0; enter = point 1 1 0 0 }

-- the configuration before anything was read. The flag says that the text is in the first paragraph of a list item.
abbrev pub start_configuration : {R D : Type 0} → Bool → Configuration R D
start_configuration flag = record {
  position = 0;
  waiting = Nothing;
  ended = false;
  events = [];
  stack = [];
  local = record {
    tokenize_state = record start_state { document_at_first_paragraph_of_list_item = flag };
    map = [];
    resolvers = [];
    interrupt = false;
    concrete = false;
    pierce = false;
    lazy = false;
    noted = start_noted;
  };
}

-- a tokenizer that has read nothing
abbrev pub start_seen : {M R D : Type 0} → Given → M → Text → TokenizerValue M R D
start_seen g m text = record {
  given = g;
  machine = m;
  text = text;
  configuration = start_configuration false;
  choices = [];
  calls = 0;
  closed = false;
  phase = Reading;
}

-- the configuration is another one
abbrev pub at_configuration : {M R D : Type 0} → TokenizerValue M R D → Configuration R D → TokenizerValue M R D
at_configuration t k = record t { configuration = k }
