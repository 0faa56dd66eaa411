-- What a machine knows that its table does not say: about its events, what states share, and the choices that wait.
use Rattle.std.specs.Prelude.{◌≡◌, List, [], ◌∷◌, ◌++◌, Bool, true, false, Option, All}
use Rattle.markdown_base.specs.declared.event.Event.{Event}
use Rattle.markdown_base.specs.declared.state.Name.{Name}
use Rattle.markdown_base.specs.declared.state.State.{State}
use Rattle.markdown_base.specs.declared.state.State.TheVariants.{Next, Retry, Ok, Nok}
use Rattle.markdown_base.specs.Events.{IsBalanced}
use Rattle.markdown_tokenizer.specs.Text.{Given, Text}
use Rattle.markdown_tokenizer.specs.Configuration.{Configuration, Local, Choice, Step, start_configuration}
use Rattle.markdown_tokenizer.specs.Calls.{with_local}
use Rattle.markdown_tokenizer.specs.Reading.{settled_at}
use Rattle.markdown_tokenizer.specs.Sight.{Sight}
use Rattle.markdown_edits.specs.Edited.{edited}
use Rattle.markdown_tokenizer.specs.Resolving.{CanBeEdited, IsInShape}
use Rattle.markdown_tokenizer.specs.Rules.{Rules}
use Rattle.markdown_tokenizer.specs.Engine.{IsWellFormed}
use Rattle.mdconstructs_tables.specs.Rows.{Rows, row, when, Row, StateRows, Table, step_of}
use Rattle.mdconstructs_tables.specs.Late.{AllFallLater}
use Rattle.mdconstructs_tables.specs.RowInvariant.{table_holds, table_rules}

-- the edits that wait can be made, and then the events are in shape, and as promised
abbrev pub LeavesShape : {R D : Type 0} → (ends : Text → List Event → Type 0) → Text → List R → Configuration R D → Type 0
LeavesShape ends text rs k = CanBeEdited k × IsInShape (edited k.local.map k.events) × ends text (edited k.local.map k.events)

-- the property holds for each of the rows that the tests may pick
module _ {R D : Type 0} (P : Row R D → Type 0) (g : Given) (s : Sight) (k : Configuration R D) where
  abbrev pub EachRow : Rows R D → Type 0
  EachRow (row acts answer) = P (record { acts = acts; answer = answer })
  EachRow (when test one other) = (test g s k ≡ true → EachRow one) × (test g s k ≡ false → EachRow other)

module _ {W R D : Type 0} (table : Table W R D) (knows : List Event → Local R D → List Choice → State → Type 0) where
  -- The invariant of the table holds, and what the machine knows holds at this state
  pub record HoldsKnowing (g : Given) (text : Text) (k : Configuration R D) (choices : List Choice) (state : State) : Type 0 where
    pub holds : table_holds table g text k choices state
    pub known : knows k.events k.local choices state

  -- the rules of a table; the invariant includes what the machine knows. The machine registers no resolver, and promises this of its final
  -- events
  abbrev pub knowing_rules : (ends : Given → Text → List Event → Type 0) → Given → Rules R D
  knowing_rules ends g = record (table_rules table g) { holds = HoldsKnowing g; resolves = LeavesShape (ends g); ends = ends g }

  -- what is known after a step
  abbrev pub KnownAfter : Step R D → List Choice → Type 0
  KnownAfter q choices = knows q.configuration.events q.configuration.local (q.choices ++ choices) q.answer

  -- after each row of a state, what the machine knows holds at the state returned
  abbrev pub KeepsKnowing : StateRows W R D → Type 0
  KeepsKnowing state = (g : Given) (s : Sight) (k : Configuration R D) (choices : List Choice) (previous current : Option W) → knows k.events k.local choices (Retry state.name)
      → let k1 = with_local k (table.first k.local) in EachRow (λ r. KnownAfter (step_of r s k1) choices) g s k1 (state.rows previous current)

  abbrev pub AllKeepKnowing : List (StateRows W R D) → Type 0
  AllKeepKnowing [] = Unit {0}
  AllKeepKnowing (state ∷ states) = KeepsKnowing state × AllKeepKnowing states

  -- what a machine knows says that the attempts that wait go on with what costs less later; a machine of checks has no attempts
  abbrev pub KnowsFalling : (falling : Name → Bool) → Type 0
  KnowsFalling falling =
      (events : List Event) (local : Local R D) (choices : List Choice) (state : State) → knows events local choices state → AllFallLater falling choices

  -- What a machine knows holds at each start. Feeding, the rows of each state, and the end of a choice keep it. Once all was read it says
  -- that no resolver is registered, and that the edits can be made and leave the events in shape, and as promised.
  pub record IsKnownThroughout (ends : Given → Text → List Event → Type 0) : Type 0 where
    pub at_starts : (flag : Bool) → let k : Configuration R D = start_configuration flag in All (λ name. knows k.events k.local [] (Next name)) table.starts
    pub by_feeding : (events : List Event) (local : Local R D) (choices : List Choice) (name : Name) → knows events local choices (Next name) → knows events local choices (Retry name)
    pub by_rows : AllKeepKnowing table.states
    pub by_ok : (k : Configuration R D) (choice : Choice) (choices : List Choice) → knows k.events k.local (choice ∷ choices) Ok
        → let k' = settled_at choice.kind choice.saved Ok k in knows k'.events k'.local choices choice.ok
    pub by_nok : (k : Configuration R D) (choice : Choice) (choices : List Choice) → knows k.events k.local (choice ∷ choices) Nok
        → let k' = settled_at choice.kind choice.saved Nok k in knows k'.events k'.local choices choice.nok
    pub at_end : (k : Configuration R D) → IsBalanced k.events → knows k.events k.local [] Ok
        → (k.local.resolvers ≡ []) × CanBeEdited k × IsInShape (edited k.local.map k.events)
    pub promised : (g : Given) (text : Text) (k : Configuration R D) → IsWellFormed g k.events → knows k.events k.local [] Ok
        → ends g text (edited k.local.map k.events)
