-- Tables that link no events to one another: an event may have a link, as a chunk that is read alone, but no ends. What a machine of such a
-- table knows is the same for all of them.
use Rattle.std.specs.Prelude.{◌≡◌, ◌∷◌, ◌&&◌, not, List, [], Bool, true, false, Option, filter, map}
use Rattle.markdown_base.specs.declared.event.Event.{Event}
use Rattle.markdown_base.specs.declared.state.Name.{Name}
use Rattle.markdown_base.specs.declared.state.State.{State}
use Rattle.markdown_tokenizer.specs.Configuration.{Configuration, Local, Choice}
use Rattle.markdown_tokenizer.specs.Engine.{EndsWellFormed}
use Rattle.markdown_tokenizer.specs.Rules.{Rules}
use Rattle.markdown_tokenizer.specs.Sight.{Sight}
use Rattle.markdown_tokenizer.specs.Text.{Given}
use Rattle.mdconstructs_tables.specs.Calm.{is_alone, RowsHarmless}
use Rattle.mdconstructs_tables.specs.Knowledge.{knowing_rules}
use Rattle.mdconstructs_tables.specs.Rows.{Act, enters, links, Row, StateRows, Table}
use Rattle.mdconstructs_tables.specs.RowTest.{all_rows}

-- no event is linked to another
abbrev pub AreAlone : List Event → Type 0
AreAlone [] = Unit {0}
AreAlone (e ∷ events) = (is_alone e.link ≡ true) × AreAlone events

module _ {R D : Type 0} where
  -- What a machine of such a table knows: that, and that no resolver is registered and no edit waits
  pub record KnowsAlone (events : List Event) (local : Local R D) : Type 0 where
    pub alone : AreAlone events
    pub resolvers : local.resolvers ≡ []
    pub edits : local.map ≡ []

  -- the same, whatever choices wait, and at any state
  abbrev pub knows_alone : List Event → Local R D → List Choice → State → Type 0
  knows_alone events local choices state = KnowsAlone events local

  -- a write registers no resolver and makes no edit
  abbrev pub RegistersNothing : (Sight → Configuration R D → Local R D) → Type 0
  RegistersNothing f = (s : Sight) (k : Configuration R D) → ((f s k).resolvers ≡ k.local.resolvers) × ((f s k).map ≡ k.local.map)

  -- acts link no events to one another
  abbrev pub are_unlinked : List (Act R D) → Bool
  are_unlinked [] = true
  are_unlinked (enters name link ∷ acts) = is_alone link && are_unlinked acts
  are_unlinked (links previous next ∷ acts) = false
  are_unlinked (_ ∷ acts) = are_unlinked acts

  abbrev pub is_unlinked : Row R D → Bool
  is_unlinked r = are_unlinked r.acts

module _ {W R D : Type 0} where
  -- the names of the states with a row that links events to one another
  abbrev pub linking : List (StateRows W R D) → (previous current : Option W) → List Name
  linking states b w = map (λ (state : StateRows W R D). state.name) (filter (λ state. not (all_rows is_unlinked (state.rows b w))) states)

  -- no write of these states registers a resolver or makes an edit
  abbrev pub RegisterNothing : List (StateRows W R D) → (previous current : Option W) → Type 0
  RegisterNothing [] b w = Unit {0}
  RegisterNothing (state ∷ states) b w = RowsHarmless RegistersNothing (state.rows b w) (RegisterNothing states b w)

  -- The test names no state as linking, no write registers a resolver or makes an edit, nor does what each call writes first
  pub record LinksNothing (table : Table W R D) : Type 0 where
    pub first : RegistersNothing (λ s k. table.first k.local)
    pub rows : (previous current : Option W) → (linking table.states previous current ≡ []) × RegisterNothing table.states previous current

  -- the rules of such a table: its final events are well formed
  abbrev pub unlinked_rules : Table W R D → Given → Rules R D
  unlinked_rules table = knowing_rules table knows_alone EndsWellFormed
