-- The events of a document with the checks of its task list items in place of the text that they cover.
use Rattle.std.specs.Prelude.{ℕ, zero, suc, ◌+◌, ◌-◌, cond, List, [], ◌∷◌, ◌++◌, Some, None}
use Rattle.markdown_base.specs.declared.configuration.ParseOptions.{ParseOptions}
use Rattle.markdown_base.specs.declared.event.Event.{Event}
use Rattle.markdown_base.specs.declared.event.Kind.TheVariants as kind
use Rattle.markdown_base.specs.declared.event.Name.TheVariants.{Data}
use Rattle.markdown_base.specs.declared.event.Point.{Point}
use Rattle.mdblock_tables.specs.declared.pieces.Piece.{Piece}
use Rattle.mdblock_tables.specs.declared.pieces.Step.TheVariants.{Enter, Whole, Exit}
use Rattle.mdblock_tables.specs.Pieces.{told}
use Rattle.mdblock_tables.specs.Tasks.{check_pieces}
use Rattle.mdgfm_events.specs.Places.{event, leaf, place_at}
use Rattle.mdgfm_tasks.specs.declared.awaited.Awaited.{Awaited}
use Rattle.mdgfm_tasks.specs.declared.awaited.Awaited.TheVariants.{Nothing}
use Rattle.mdgfm_tasks.specs.declared.checks.Found.{Found}
use Rattle.mdgfm_tasks.specs.Awaits.{awaited_behind}
use Rattle.mdgfm_tasks.specs.Checks.{check_of}

-- the place so many bytes further on in a line
abbrev pub further : (tab : ℕ) → List ℕ → Point → ℕ → Point
further tab bytes p n = place_at tab bytes p (p.index + n)

-- Pieces one behind the other from a place on, and data behind them up to another
abbrev pub laid : (tab : ℕ) → List ℕ → (from : Point) → List Piece → (to : Point) → List Event
laid tab bytes p [] to = leaf Data p to
laid tab bytes p (s ∷ ss) to = elim s.step [
  | Enter ↦ event kind.Enter s.name p ∷ laid tab bytes p ss to
  | Whole ↦ leaf s.name p (further tab bytes p s.size) ++ laid tab bytes (further tab bytes p s.size) ss to
  | Exit ↦ event kind.Exit s.name p ∷ laid tab bytes p ss to
]

-- a check at a place, and what is left of its text
abbrev pub check_events : (tab : ℕ) → List ℕ → (at : Point) → Found → List Event
check_events tab bytes p f = laid tab bytes p (told (check_pieces f.check)) f.text.end

-- Events with checks, behind the first `skip`, by what is awaited there. Behind a check nothing is
abbrev pub events_with : (tab : ℕ) → List ℕ → (skip : ℕ) → Awaited → List Event → List Event
events_with tab bytes skip a [] = []
events_with tab bytes (suc skip) a (e ∷ es) = events_with tab bytes skip a es
events_with tab bytes zero a (e ∷ es) = elim (check_of bytes a (e ∷ es)) [
  | Some f ↦ check_events tab bytes e.point f ++ events_with tab bytes (f.text.size - 1) Nothing es
  | None ↦ e ∷ events_with tab bytes 0 (awaited_behind a e) es
]

-- The events with checks, if they are on
abbrev pub task_events : ParseOptions → List ℕ → List Event → List Event
task_events options bytes events = cond options.constructs.gfm_task_list_item (events_with options.tab_size bytes 0 Nothing events) events
