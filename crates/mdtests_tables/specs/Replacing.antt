-- The machine that replaces: it reads a text without events, and each of its two resolvers replaces all events that it sees by one span. The
-- second makes the edit of the first before, so that it sees the span of the first.
use Rattle.std.specs.Prelude.{◌≡◌, ℕ, ◌+◌, ◌-◌, List, [], ◌∷◌, Bool, true, Option, Some, None, length}
use denote.Enum.Bare.{sameb}
use Rattle.markdown.specs.declared.event.Event.{Event}
use Rattle.markdown.specs.declared.event.Kind.TheVariants.{Enter, Exit}
use Rattle.markdown.specs.declared.event.Name.{Name as EventName}
use Rattle.markdown.specs.declared.event.Name.TheVariants.{Paragraph, BlockQuote}
use Rattle.markdown.specs.declared.event.Point.{Point}
use Rattle.markdown.specs.declared.state.Name.{Name}
use Rattle.markdown.specs.StateConstants.Name.{TextStart}
use Rattle.markdown.specs.declared.state.State.{State}
use Rattle.markdown.specs.declared.state.State.TheVariants.{Next, Retry, Ok}
use Rattle.markdown_tokenizer.specs.declared.waiting.Waits.TheVariants.{Nothing}
use Rattle.markdown.specs.Text.{Given, Text}
use Rattle.markdown.specs.Configuration.{Configuration, Choice, Step}
use Rattle.markdown.specs.Sight.{Sight}
use Rattle.markdown.specs.Calls.{consumed, with_resolvers, registered}
use Rattle.markdown.specs.Edits.{edit_at, added_after}
use Rattle.markdown.specs.Resolving.{Resolved, done, edits_made}
use Rattle.markdown.specs.Rules.{Rules}
use Rattle.mdconstructs_tables.specs.RowInvariant.{IsFed}
use Rattle.mdtests_tables.specs.contracts.resolvers.ReplacingResolver.{the_type}
use Rattle.mdtests_tables.specs.declared.resolvers.ReplacingResolver.{ReplacingResolver}
use Rattle.mdtests_tables.specs.declared.resolvers.ReplacingResolver.TheVariants.{First, Second}

-- whether two names of resolvers are equal
abbrev pub same_resolver : ReplacingResolver → ReplacingResolver → Bool
same_resolver a b = sameb the_type a b

-- both resolvers are registered
abbrev pub both_registered : Configuration ReplacingResolver Unit → Configuration ReplacingResolver Unit
both_registered k = with_resolvers k (registered same_resolver Second (registered same_resolver First k.local.resolvers))

-- what the state does at the end, and at a byte
abbrev pub reads_on : Option ℕ → Configuration ReplacingResolver Unit → Step ReplacingResolver Unit
reads_on None k = record { configuration = both_registered k; choices = []; answer = Ok }
reads_on (Some byte) k = record { configuration = consumed k; choices = []; answer = Next TextStart }

abbrev pub replacing_step : Sight → Configuration ReplacingResolver Unit → Name → Step ReplacingResolver Unit
replacing_step s k name = reads_on s.current k

-- a span of this name at a place, with nothing in it
abbrev pub span_at : EventName → Point → List Event
span_at name p = record { kind = Enter; name = name; point = p; link = None } ∷ record { kind = Exit; name = name; point = p; link = None } ∷ []

-- one more edit waits: such a span comes in place of all events
abbrev pub replaced : EventName → Sight → Configuration ReplacingResolver Unit → Configuration ReplacingResolver Unit
replaced name s k =
    let edit = edit_at 0 (length k.events) (span_at name s.point) in
    record k { local = record k.local { map = added_after k.local.map edit } }

-- the results of the resolvers
abbrev pub replacing_resolver : Sight → Configuration ReplacingResolver Unit → ReplacingResolver → Resolved ReplacingResolver Unit
replacing_resolver s k First = done (replaced Paragraph s k) None
replacing_resolver s k Second = done (replaced BlockQuote s (edits_made k)) None

-- There are no choices, no open spans, no events and no edits, and these resolvers are registered
pub record IsBlank (rs : List ReplacingResolver) (k : Configuration ReplacingResolver Unit) (choices : List Choice) : Type 0 where
  pub alone : choices ≡ []
  pub closed : k.stack ≡ []
  pub eventless : k.events ≡ []
  pub unedited : k.local.map ≡ []
  pub registered_are : k.local.resolvers ≡ rs

-- The invariant: resolvers are registered once the end was fed, and something waits exactly where a state is called
abbrev pub replacing_holds : Text → Configuration ReplacingResolver Unit → List Choice → State → Type 0
replacing_holds text k choices (Next name) = IsBlank [] k choices × (k.waiting ≡ Nothing)
replacing_holds text k choices (Retry name) = IsBlank [] k choices × IsFed k.waiting k.position k.ended text
replacing_holds text k choices Ok = IsBlank (First ∷ Second ∷ []) k choices × (k.ended ≡ true)
replacing_holds text k choices _ = ⊥

-- a call for each byte that is left, and one for the end
abbrev pub replacing_cost : Text → Configuration ReplacingResolver Unit → List Choice → State → ℕ
replacing_cost text k choices (Next name) = length text.seats - k.position + 1
replacing_cost text k choices (Retry name) = length text.seats - k.position + 1
replacing_cost text k choices _ = 0

-- what holds before the resolvers that are left: the edit of the first waits for the second, and is made before the edit of the second
abbrev pub replacing_resolves : Text → List ReplacingResolver → Configuration ReplacingResolver Unit → Type 0
replacing_resolves text (First ∷ Second ∷ []) k = (k.events ≡ []) × (k.local.map ≡ [])
replacing_resolves text (Second ∷ []) k = (p : Point) × (k.events ≡ []) × (k.local.map ≡ edit_at 0 0 (span_at Paragraph p) ∷ [])
replacing_resolves text [] k = (p q : Point) × (k.events ≡ span_at Paragraph p) × (k.local.map ≡ edit_at 0 2 (span_at BlockQuote q) ∷ [])
replacing_resolves text _ k = ⊥

-- its rules; in the end there is one block quote, with nothing in it
abbrev pub replacing_rules : Given → Rules ReplacingResolver Unit
replacing_rules g = record {
  step = replacing_step;
  holds = replacing_holds;
  cost = replacing_cost;
  starts = TextStart ∷ [];
  resolver = replacing_resolver;
  resolves = replacing_resolves;
  ends = λ text events. (p : Point) × (events ≡ span_at BlockQuote p);
}
