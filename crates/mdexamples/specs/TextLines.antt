-- The machine of lines of text: each line is a chunk of text, in a chain of its own. Its resolver reads the chunks by another machine, that of
-- texts. Its rules name no state of that machine: they cite the definition of what a text is read as.
use Rattle.std.specs.Prelude.{◌≡◌, ◌==◌, ◌⊎◌, ◌∷◌, [], List, Bool, true, cond, Option, Some, None}
use Rattle.std.specs.List.{AllByRecursion}
use Rattle.markdown.specs.declared.event.Event.{Event}
use Rattle.markdown.specs.declared.event.Kind.TheVariants.{Enter}
use Rattle.markdown.specs.declared.event.Name.TheVariants.{Data, LineEnding}
use Rattle.markdown.specs.StateConstants.Name.{FlowStart, ParagraphStart, ParagraphInside}
use Rattle.markdown.specs.declared.state.State.{State}
use Rattle.markdown.specs.declared.state.State.TheVariants.{Next, Retry, Ok}
use Rattle.markdown.specs.Events.{is_void, IsVoidTight}
use Rattle.markdown.specs.Text.{Given, Text, IsDocument}
use Rattle.markdown.specs.Configuration.{Configuration, Local, Choice}
use Rattle.markdown.specs.Sight.{Sight}
use Rattle.markdown.specs.Calls.{with_events, with_resolvers, registered}
use Rattle.markdown.specs.Resolving.{Resolved, done, IsInShape}
use Rattle.markdown.specs.Rules.{Rules}
use Rattle.markdown.specs.Engine.{IsWellFormed}
use Rattle.mdconstructs.specs.ChainTexts.{with_texts}
use Rattle.mdconstructs.specs.Paragraphs.{text_link}
use Rattle.mdconstructs.specs.Rows.{enter, enter_link, exit, consume, write, Rows, row, StateRows, calls, state, Table}
use Rattle.mdconstructs.specs.RowInvariant.{table_rules}
use Rattle.mdconstructs.specs.Tables.{LineByte, line_ending, other, line_byte, counts}
use Rattle.mdexamples.specs.declared.text_lines.Resolver.{Resolver}
use Rattle.mdexamples.specs.declared.text_lines.Resolver.TheVariants.{ReadTexts}

-- two names of resolvers are equal: there is one
abbrev pub same_resolver : Resolver → Resolver → Bool
same_resolver a b = true

-- the resolver is registered
abbrev pub registers : Configuration Resolver Unit → Local Resolver Unit
registers k = (with_resolvers k (registered same_resolver ReadTexts k.local.resolvers)).local

-- before anything is read
abbrev pub flow_start_rows : (previous current : Option LineByte) → Rows Resolver Unit
flow_start_rows _ _ = row (write registers ∷ []) (Retry ParagraphStart)

abbrev pub flow_start : StateRows LineByte Resolver Unit
flow_start = state FlowStart flow_start_rows [] (calls 2 2)

-- before a line, or its ending
abbrev pub line_start_rows : (previous current : Option LineByte) → Rows Resolver Unit
line_start_rows _ None = row [] Ok
line_start_rows _ (Some line_ending) = row (enter LineEnding ∷ consume ∷ exit LineEnding ∷ []) (Next ParagraphStart)
line_start_rows _ (Some other) = row (enter_link Data text_link ∷ consume ∷ []) (Next ParagraphInside)

abbrev pub line_start : StateRows LineByte Resolver Unit
line_start = state ParagraphStart line_start_rows [] (calls 2 1)

-- in a line
abbrev pub line_inside_rows : (previous current : Option LineByte) → Rows Resolver Unit
line_inside_rows _ None = row (exit Data ∷ []) (Retry ParagraphStart)
line_inside_rows _ (Some line_ending) = row (exit Data ∷ []) (Retry ParagraphStart)
line_inside_rows _ (Some other) = row (consume ∷ []) (Next ParagraphInside)

abbrev pub line_inside : StateRows LineByte Resolver Unit
line_inside = state ParagraphInside line_inside_rows (Data ∷ []) (calls 2 2)

abbrev pub text_lines : Table LineByte Resolver Unit
text_lines = record { class = line_byte; first = counts; states = flow_start ∷ line_start ∷ line_inside ∷ []; starts = FlowStart ∷ [] }

-- the resolver leaves each chunk replaced by what its text is read as: with the definition of that, `with_texts`, it is a function
abbrev pub text_lines_resolver : Given → Sight → Configuration Resolver Unit → Resolver → Resolved Resolver Unit
text_lines_resolver g s k ReadTexts = done (with_events k (with_texts g k.events)) None

-- an event is in no chain, or begins a chunk of text that is a chain of its own
abbrev pub IsAlone : Event → Type 0
IsAlone e = (e.link ≡ None) ⊎ ((e.kind ≡ Enter) × (is_void e.name ≡ true) × (e.link ≡ Some text_link))

-- which resolvers are registered: none before the first call, and then the one
abbrev pub registered_at : State → List Resolver
registered_at (Next name) = cond (name.number == FlowStart.number) [] (ReadTexts ∷ [])
registered_at (Retry name) = cond (name.number == FlowStart.number) [] (ReadTexts ∷ [])
registered_at _ = ReadTexts ∷ []

-- these resolvers are registered, no edit waits, and each chunk is a chain of its own
abbrev pub IsUnread : List Resolver → Configuration Resolver Unit → Type 0
IsUnread rs k = (k.local.resolvers ≡ rs) × (k.local.map ≡ []) × AllByRecursion IsAlone k.events

-- no choice waits either
abbrev pub IsUnreadAt : Configuration Resolver Unit → List Choice → State → Type 0
IsUnreadAt k choices state = (choices ≡ []) × IsUnread (registered_at state) k

-- the events are a list of lines, whose chunks are replaced by what they are read as; and each void span is empty
abbrev pub AreTextLines : Given → List Event → Type 0
AreTextLines g events =
    (lines : List Event) × IsWellFormed g lines × AllByRecursion IsAlone lines × (events ≡ with_texts g lines) × IsVoidTight events

-- what holds before the resolver, and behind it
abbrev pub text_lines_resolves : Given → Text → List Resolver → Configuration Resolver Unit → Type 0
text_lines_resolves g text (ReadTexts ∷ []) k = IsDocument g × (k.local.map ≡ []) × AllByRecursion IsAlone k.events × IsWellFormed g k.events
text_lines_resolves g text [] k = (k.local.map ≡ []) × IsInShape k.events × AreTextLines g k.events
text_lines_resolves g text _ k = ⊥

-- its rules
abbrev pub text_lines_rules : Given → Rules Resolver Unit
text_lines_rules g =
    let rules = table_rules text_lines g in
    record rules {
      holds = λ text k choices state. IsUnreadAt k choices state × rules.holds text k choices state;
      resolver = text_lines_resolver g;
      resolves = text_lines_resolves g;
      ends = λ text events. AreTextLines g events;
    }
