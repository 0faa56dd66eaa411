-- Inner: how far a walk over spans goes, event by event, and reversed lists. No public contract cites this file.
use Rattle.std.specs.Prelude.{ℕ, ◌+◌, ◌-◌, Bool, not, ◌&&◌, ◌==◌, List, [], ◌∷◌, ◌++◌, if◌then◌else◌}
use Rattle.markdown_base.specs.declared.event.Event.{Event}
use Rattle.markdown_base.specs.declared.event.Kind.{Kind}
use Rattle.markdown_base.specs.declared.event.Kind.TheVariants.{Enter, Exit}
use Rattle.markdown_base.specs.declared.event.Name.{Name}
use Rattle.markdown_base.specs.Events.{is_enter}
use Rattle.markdown_edits.specs.SpanWalks.{is_wanted}

-- in how many spans a walk is after an event
abbrev pub depth_after : Kind → ℕ → ℕ
depth_after Enter depth = depth + 1
depth_after Exit depth = depth - 1

-- whether a walk over wanted spans stops at an event, inside `depth` of them
abbrev pub is_stop : List Name → Event → ℕ → Bool
is_stop names e depth = (depth == 0) && not (is_enter e.kind && is_wanted names e.name)

-- how many events a walk goes over
abbrev pub run_len : List Name → ℕ → List Event → ℕ
run_len names depth [] = 0
run_len names depth (e ∷ es) = if is_stop names e depth then 0 else 1 + run_len names (depth_after e.kind depth) es

-- in a reversed list an enter is an exit
abbrev pub flip_kind : Kind → Kind
flip_kind Enter = Exit
flip_kind Exit = Enter

-- the event in a reversed list
abbrev pub flip : Event → Event
flip e = record e { kind = flip_kind e.kind }

-- the list reversed
abbrev pub mirror : List Event → List Event
mirror [] = []
mirror (e ∷ es) = mirror es ++ flip e ∷ []
