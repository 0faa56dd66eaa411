-- The machine that wraps: it reads data, and its resolvers put all of it into one paragraph, or refuse the document.
use Rattle.std.specs.Prelude.{◌≡◌, ◌==◌, ◌∷◌, ◌++◌, [], List, Bool, false, cond, Option, Some, None, length, map, codes}
use denote.Enum.Bare.{sameb}
use Rattle.markdown_base.specs.declared.event.Event.{Event}
use Rattle.markdown_base.specs.declared.event.Kind.TheVariants.{Enter, Exit}
use Rattle.markdown_base.specs.declared.event.Name.{Name as EventName}
use Rattle.markdown_base.specs.declared.event.Name.TheVariants.{Paragraph, Data, CodeTextData}
use Rattle.markdown_base.specs.declared.event.Point.{Point}
use Rattle.markdown_base.specs.declared.state.TheConstants.Name.{TextStart, DataStart}
use Rattle.markdown_base.specs.declared.state.State.{State}
use Rattle.markdown_base.specs.declared.state.State.TheVariants.{Next, Retry}
use Rattle.markdown_base.specs.Events.{same_name, IsBalanced}
use Rattle.markdown_tokenizer.specs.declared.subtokenize.Subresult.{Subresult}
use Rattle.markdown_tokenizer.specs.Text.{Given, Text}
use Rattle.markdown_tokenizer.specs.Configuration.{Configuration, Local, Choice}
use Rattle.markdown_tokenizer.specs.Sight.{Sight}
use Rattle.markdown_tokenizer.specs.Calls.{with_events, with_resolvers, registered, registered_before}
use Rattle.markdown_edits.specs.Edits.{Edit, edit_at, added_after}
use Rattle.markdown_tokenizer.specs.Renames.{renamed_by}
use Rattle.markdown_tokenizer.specs.Resolving.{Resolved, done, refused}
use Rattle.markdown_tokenizer.specs.Rules.{Rules}
use Rattle.markdown_tokenizer.specs.Plain.{HaveNoLinks}
use Rattle.mdconstructs_tables.specs.Rows.{write, Rows, row, StateRows, calls, state, Table}
use Rattle.mdconstructs_tables.specs.RowInvariant.{table_rules}
use Rattle.mdconstructs_machines.specs.contracts.wrap.Resolver.{the_type}
use Rattle.mdconstructs_machines.specs.declared.wrap.Resolver.{Resolver}
use Rattle.mdconstructs_machines.specs.declared.wrap.Resolver.TheVariants.{A, B, C}
use Rattle.mdconstructs_tables.specs.Tables.{LineByte, line_byte, counts}
use Rattle.mdconstructs_tables.specs.DataRows.{data_start, data_inside}
use Rattle.mdconstructs_machines.specs.Messages.{refusal}

-- whether two names of resolvers are equal
abbrev pub same_resolver : Resolver → Resolver → Bool
same_resolver a b = sameb the_type a b

-- A is registered, then B before it, then A before that, which changes nothing
abbrev pub registers : Configuration Resolver Unit → Local Resolver Unit
registers k =
    let first = registered same_resolver A k.local.resolvers in
    (with_resolvers k (registered_before same_resolver A (registered_before same_resolver B first))).local

-- before anything is read resolvers are registered, and then data is read
abbrev pub text_start_rows : (previous current : Option LineByte) → Rows Resolver Unit
text_start_rows _ _ = row (write registers ∷ []) (Retry DataStart)

abbrev pub text_start : StateRows LineByte Resolver Unit
text_start = state TextStart text_start_rows [] (calls 2 2)

abbrev pub wrap : Table LineByte Resolver Unit
wrap = record { class = line_byte; first = counts; states = text_start ∷ data_start ∷ data_inside ∷ []; starts = TextStart ∷ [] }

-- data is renamed to data of a code span
abbrev pub code_name : EventName → EventName
code_name n = cond (same_name n Data) CodeTextData n

abbrev pub renamed : Event → Event
renamed e = renamed_by code_name e

-- the place of the first event, or this one if there is none
abbrev pub first_place : Point → List Event → Point
first_place p [] = p
first_place p (e ∷ es) = e.point

-- the enter of a paragraph, and its exit, at a place
abbrev pub begin_event : Point → Event
begin_event p = record { kind = Enter; name = Paragraph; point = p; link = None }

abbrev pub end_event : Point → Event
end_event p = record { kind = Exit; name = Paragraph; point = p; link = None }

-- one more edit waits
abbrev pub with_edit : Configuration Resolver Unit → Edit → Configuration Resolver Unit
with_edit k edit = record k { local = record k.local { map = added_after k.local.map edit } }

-- the definition that is found
abbrev pub one_definition : Subresult
one_definition = record { done = false; gfm_footnote_definitions = []; definitions = codes "A" ∷ [] }

-- B renames data, and adds the edit by which a paragraph begins before all events
abbrev pub begins_paragraph : Sight → Configuration Resolver Unit → Configuration Resolver Unit
begins_paragraph s k = with_edit (with_events k (map renamed k.events)) (edit_at 0 0 (begin_event (first_place s.point k.events) ∷ []))

-- A registers C, and adds the edit by which the paragraph ends after all events
abbrev pub ends_paragraph : Sight → Configuration Resolver Unit → Configuration Resolver Unit
ends_paragraph s k = with_edit (with_resolvers k (registered same_resolver C k.local.resolvers)) (edit_at (length k.events) 0 (end_event s.point ∷ []))

-- The results of the resolvers. A refuses the document, or finds a definition; C does nothing, and is never run.
abbrev pub wrap_resolver : Bool → Sight → Configuration Resolver Unit → Resolver → Resolved Resolver Unit
wrap_resolver refuse s k A = cond refuse (refused refusal) (done (ends_paragraph s k) (Some one_definition))
wrap_resolver refuse s k B = done (begins_paragraph s k) None
wrap_resolver refuse s k C = done k None

-- which resolvers are registered: none before the first call, and then B and A
abbrev pub registered_at : State → List Resolver
registered_at (Next name) = cond (name.number == TextStart.number) [] (B ∷ A ∷ [])
registered_at (Retry name) = cond (name.number == TextStart.number) [] (B ∷ A ∷ [])
registered_at _ = B ∷ A ∷ []

-- these resolvers are registered, no edit waits, and no event has a link
abbrev pub IsUnedited : List Resolver → Configuration Resolver Unit → Type 0
IsUnedited rs k = (k.local.resolvers ≡ rs) × (k.local.map ≡ []) × HaveNoLinks k.events

-- no choice waits either
abbrev pub IsUnwrapped : Configuration Resolver Unit → List Choice → State → Type 0
IsUnwrapped k choices state = (choices ≡ []) × IsUnedited (registered_at state) k

-- the events are balanced, and none has a link
abbrev pub IsFlat : List Event → Type 0
IsFlat events = HaveNoLinks events × IsBalanced events

-- what holds before the resolvers that are left: the edits of the ones that ran wait
abbrev pub wrap_resolves : Text → List Resolver → Configuration Resolver Unit → Type 0
wrap_resolves text (B ∷ A ∷ []) k = (k.local.map ≡ []) × IsFlat k.events
wrap_resolves text (A ∷ []) k = (p : Point) × (k.local.map ≡ edit_at 0 0 (begin_event p ∷ []) ∷ []) × IsFlat k.events
wrap_resolves text [] k = (p q : Point) × (k.local.map ≡ added_after (edit_at 0 0 (begin_event p ∷ []) ∷ []) (edit_at (length k.events) 0 (end_event q ∷ []))) × IsFlat k.events
wrap_resolves text _ k = ⊥

-- one paragraph holds all that was read
abbrev pub IsOneParagraph : Text → List Event → Type 0
IsOneParagraph text events = (p q : Point) × (inner : List Event) × (events ≡ begin_event p ∷ (inner ++ end_event q ∷ []))

-- its rules
abbrev pub wrap_rules : Bool → Given → Rules Resolver Unit
wrap_rules refuse g =
    let rules = table_rules wrap g in
    record rules {
      holds = λ text k choices state. IsUnwrapped k choices state × rules.holds text k choices state;
      resolver = wrap_resolver refuse;
      resolves = wrap_resolves;
      ends = IsOneParagraph;
    }
