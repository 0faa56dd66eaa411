-- Plans of machines: a table, and all that stands beside it.
use Rattle.std.specs.Prelude.{◌≡◌, ◌<◌, ◌≤◌, ◌++◌, List, [], ◌∷◌, Bool, true, false, Option, All, length}
use Rattle.markdown_base.specs.declared.event.Event.{Event}
use Rattle.markdown_base.specs.declared.event.Point.{Point}
use Rattle.markdown_base.specs.declared.state.Name.{Name}
use Rattle.markdown_base.specs.declared.state.State.{State}
use Rattle.markdown_base.specs.declared.state.State.TheVariants.{Next, Retry, Ok, Nok}
use Rattle.markdown_tokenizer.specs.declared.waiting.Waits.TheVariants.{Byte, End}
use Rattle.markdown_tokenizer.specs.Text.{Given, Text, Piece, IsText, FitsAfter, followed_by, empty_text}
use Rattle.markdown_tokenizer.specs.Configuration.{Configuration, Choice, Step, start_configuration}
use Rattle.markdown_tokenizer.specs.Calls.{with_local}
use Rattle.markdown_tokenizer.specs.Reading.{settled_at}
use Rattle.markdown_tokenizer.specs.Sight.{Sight, sight}
use Rattle.markdown_tokenizer.specs.Resolving.{Resolved}
use Rattle.markdown_tokenizer.specs.Rules.{Rules}
use Rattle.markdown_tokenizer.specs.Lawful.{ResolversKeep}
use Rattle.mdconstructs_tables.specs.Rows.{StateRows, Table, class_of, step_of, table_step}
use Rattle.mdconstructs_tables.specs.Knowledge.{EachRow}
use Rattle.mdconstructs_tables.specs.Late.{AllFallLater, IsLate}
use Rattle.mdconstructs_tables.specs.RowInvariant.{table_holds, table_price}

-- `early` and `falling`: which states end choices with Ok late, and which cost less the more was read. `knows`: what the machine knows that
-- the table does not say, of the document with its options, the text, the configuration, the choices that wait, and the current state.
-- `resolver`, `resolves` and `ends` are as in `Rules`
pub record Plan (W R D : Type 0) : Type 1 where
  pub table : Table W R D
  pub early : Name → Option W → Bool
  pub falling : Name → Bool
  pub knows : Given → Text → Configuration R D → List Choice → State → Type 0
  pub resolver : Given → Sight → Configuration R D → R → Resolved R D
  pub resolves : Given → Text → List R → Configuration R D → Type 0
  pub ends : Given → Text → List Event → Type 0

module _ {W R D : Type 0} (plan : Plan W R D) where
  -- The invariant of the table holds, what attempts go on with costs less later, and what the machine knows holds at this state
  pub record HoldsPlanned (g : Given) (text : Text) (k : Configuration R D) (choices : List Choice) (state : State) : Type 0 where
    pub holds : table_holds plan.table g text k choices state
    pub falls : AllFallLater plan.falling choices
    pub known : plan.knows g text k choices state

  -- the rules of a plan
  abbrev pub planned_rules : Given → Rules R D
  planned_rules g = record {
    step = table_step plan.table g;
    holds = HoldsPlanned g;
    cost = table_price plan.table plan.early g;
    starts = plan.table.starts;
    resolver = plan.resolver g;
    resolves = plan.resolves g;
    ends = plan.ends g;
  }

  -- what is known after a step
  abbrev pub KnownBehind : Given → Text → List Choice → Step R D → Type 0
  KnownBehind g text choices q = plan.knows g text q.configuration (q.choices ++ choices) q.answer

  -- After each row of a state, what the machine knows holds at the state returned. The byte before and what waits are of these classes
  abbrev pub KeepsKnown : StateRows W R D → Type 0
  KeepsKnown state = (g : Given) (text : Text) (k : Configuration R D) (choices : List Choice) (previous current : Option W) → IsText g text
      → class_of plan.table.class (sight g text k).previous ≡ previous → class_of plan.table.class (sight g text k).current ≡ current
      → HoldsPlanned g text k choices (Retry state.name)
      → let s = sight g text k in let k1 = with_local k (plan.table.first k.local) in
      EachRow (λ r. KnownBehind g text choices (step_of r s k1)) g s k1 (state.rows previous current)

  abbrev pub AllKeepKnown : List (StateRows W R D) → Type 0
  AllKeepKnown [] = Unit {0}
  AllKeepKnown (state ∷ states) = KeepsKnown state × AllKeepKnown states

  -- What a machine knows holds at each start. Feeding a byte or the end, the rows of each state, and the end of a choice keep it; so does a
  -- piece of the document that is added before the end is fed.
  pub record KeepsKnowledge : Type 0 where
    pub at_starts : (g : Given) (p : Point) (flag : Bool) → IsText g (empty_text p) → All (λ name. plan.knows g (empty_text p) (start_configuration flag) [] (Next name)) plan.table.starts
    pub by_byte : (g : Given) (text : Text) (k : Configuration R D) (choices : List Choice) (name : Name) → IsText g text → k.position < length text.seats
        → HoldsPlanned g text k choices (Next name) → plan.knows g text (record k { waiting = Byte }) choices (Retry name)
    pub by_end : (g : Given) (text : Text) (k : Configuration R D) (choices : List Choice) (name : Name) → IsText g text → length text.seats ≤ k.position
        → HoldsPlanned g text k choices (Next name) → plan.knows g text (record k { waiting = End; ended = true }) choices (Retry name)
    pub by_rows : AllKeepKnown plan.table.states
    pub by_ok : (g : Given) (text : Text) (k : Configuration R D) (choice : Choice) (choices : List Choice) → IsText g text
        → HoldsPlanned g text k (choice ∷ choices) Ok → plan.knows g text (settled_at choice.kind choice.saved Ok k) choices choice.ok
    pub by_nok : (g : Given) (text : Text) (k : Configuration R D) (choice : Choice) (choices : List Choice) → IsText g text
        → HoldsPlanned g text k (choice ∷ choices) Nok → plan.knows g text (settled_at choice.kind choice.saved Nok k) choices choice.nok
    pub by_pieces : (g : Given) (text : Text) (piece : Piece) (k : Configuration R D) (choices : List Choice) (state : State) → IsText g text → FitsAfter g text piece
        → k.ended ≡ false → HoldsPlanned g text k choices state → plan.knows g (followed_by g text piece) k choices state

  -- What the author of a plan owes. The table passes the tests (`IsLate`), and what the machine knows is kept (`KeepsKnowledge`). Once all
  -- was read, that leads to the invariant of resolvers; each resolver's run keeps it; and when none is left, it leads to edits that can be
  -- made, and to events in shape and as promised (`ResolversKeep`).
  pub record IsSound : Type 0 where
    pub late : IsLate plan.table plan.early plan.falling
    pub kept : KeepsKnowledge
    pub resolved : (g : Given) → ResolversKeep g (planned_rules g)
