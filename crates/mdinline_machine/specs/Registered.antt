-- Machines with one resolver, which the first call registers: once all was read, it edits a list without links.
use Rattle.std.specs.Prelude.{◌≡◌, ◌⊎◌, ◌&&◌, not, List, [], ◌∷◌, Bool, true, false, filter, map, length, Option, Some, None}
use Rattle.markdown_base.specs.declared.event.Event.{Event}
use Rattle.markdown_base.specs.declared.state.Name.{Name}
use Rattle.markdown_base.specs.declared.state.State.{State}
use Rattle.markdown_base.specs.declared.state.State.TheVariants.{Next, Retry}
use Rattle.markdown_base.specs.Events.{IsBalanced}
use Rattle.markdown_edits.specs.Edits.{Edit, AreDisjoint}
use Rattle.markdown_edits.specs.Edited.{edited}
use Rattle.markdown_tokenizer.specs.Configuration.{Configuration, Choice}
use Rattle.markdown_tokenizer.specs.Engine.{IsWellFormed}
use Rattle.markdown_tokenizer.specs.Plain.{HaveNoLinks}
use Rattle.markdown_tokenizer.specs.Resolving.{Resolved, done}
use Rattle.markdown_tokenizer.specs.Sight.{Sight}
use Rattle.markdown_tokenizer.specs.Text.{Given, Text, IsDocument}
use Rattle.mdconstructs_tables.specs.Plans.{Plan}
use Rattle.mdconstructs_tables.specs.Quiet.{is_one_of}
use Rattle.mdconstructs_tables.specs.RowTest.{all_rows}
use Rattle.mdconstructs_tables.specs.Rows.{Act, enters, links, Row, StateRows, Table}

-- the state is one of the first call
abbrev pub is_first : (starts : List Name) → State → Bool
is_first starts (Next name) = is_one_of starts name
is_first starts (Retry name) = is_one_of starts name
is_first starts _ = false

module _ {R D : Type 0} where
  -- acts give no event a link
  abbrev pub are_linkless : List (Act R D) → Bool
  are_linkless [] = true
  are_linkless (enters name (Some link) ∷ acts) = false
  are_linkless (links previous next ∷ acts) = false
  are_linkless (_ ∷ acts) = are_linkless acts

  abbrev pub is_linkless : Row R D → Bool
  is_linkless r = are_linkless r.acts

  -- What is known: no event has a link, no edit waits, and the resolver is registered, but for the first call
  pub record KnowsRegistered (starts : List Name) (r : R) (k : Configuration R D) (choices : List Choice) (state : State) : Type 0 where
    pub unlinked : HaveNoLinks k.events
    pub unedited : k.local.map ≡ []
    pub registered : (k.local.resolvers ≡ r ∷ []) ⊎ ((k.local.resolvers ≡ []) × (choices ≡ []) × (is_first starts state ≡ true))

  -- once all was read, the events of a possible document are well formed, and none has a link
  pub record IsUnresolved (g : Given) (k : Configuration R D) : Type 0 where
    pub document : IsDocument g
    pub formed : IsWellFormed g k.events
    pub unlinked : HaveNoLinks k.events

  module _ (edits : Given → List Event → List Edit) where
    -- the resolver makes the edits of the events that are there
    abbrev pub makes_edits : Given → Sight → Configuration R D → R → Resolved R D
    makes_edits g s k r = done (record k { events = edited (edits g k.events) k.events }) None

    -- before the resolver and behind it no edit waits; behind it the edits of the events before it are made
    abbrev pub resolves_edits : Given → Text → List R → Configuration R D → Type 0
    resolves_edits g text [] k = (before : Configuration R D) × IsUnresolved g before × (k.events ≡ edited (edits g before.events) before.events) × (k.local.map ≡ [])
    resolves_edits g text (r ∷ []) k = IsUnresolved g k × (k.local.map ≡ [])
    resolves_edits g text _ k = ⊥

-- The edits of well formed events without links can be made. They leave a balanced list without links, as the machine promises
abbrev pub EditsCanBeMade : (edits : Given → List Event → List Edit) → (ends : Given → Text → List Event → Type 0) → Type 0
EditsCanBeMade edits ends = (g : Given) (text : Text) (events : List Event) → IsWellFormed g events → HaveNoLinks events
    → let es = edits g events in let after = edited es events in
    AreDisjoint 0 es (length events) × IsBalanced after × HaveNoLinks after × ends g text after

module _ {W R D : Type 0} (starts : List Name) where
  -- none of the states is one of the first call
  abbrev pub are_later : List (StateRows W R D) → Bool
  are_later [] = true
  are_later (state ∷ states) = not (is_first starts (Retry state.name)) && are_later states

module _ {W R D : Type 0} where
  -- the names of the states with a row that gives an event a link
  abbrev pub link_makers : List (StateRows W R D) → (previous current : Option W) → List Name
  link_makers states b w = map (λ (state : StateRows W R D). state.name) (filter (λ state. not (all_rows is_linkless (state.rows b w))) states)

module _ {W R D : Type 0} (table : Table W R D) (early : Name → Option W → Bool) (falling : Name → Bool) (starts : List Name) (r : R) (edits : Given → List Event → List Edit)
    (ends : Given → Text → List Event → Type 0) where
  -- the plan of such a machine
  abbrev pub registered_plan : Plan W R D
  registered_plan = record {
    table = table;
    early = early;
    falling = falling;
    knows = λ g text. KnowsRegistered starts r;
    resolver = makes_edits edits;
    resolves = resolves_edits edits;
    ends = ends;
  }
