-- Chunks of lines, each linked to the next.
use Rattle.std.specs.Prelude.{ℕ, zero, suc, List, [], ◌∷◌, Option, Some, None}
use Rattle.markdown_base.specs.declared.event.Content.{Content}
use Rattle.markdown_base.specs.declared.event.Event.{Event}
use Rattle.markdown_base.specs.declared.event.Kind.TheVariants.{Enter}
use Rattle.markdown_base.specs.declared.event.Name.TheVariants as name
use Rattle.markdown_base.specs.declared.event.Point.{Point}

-- the enter of a chunk of this content that is the last one, by the index of the one before it
abbrev pub chunk_enter : Content → (previous : Option ℕ) → Point → Event
chunk_enter c previous place = record { kind = Enter; name = name.Data; point = place; link = Some (record { previous = previous; next = None; content = c }) }

-- an event that is linked to the next chunk, at this index
abbrev pub with_next : (next : ℕ) → Event → Event
with_next n e = elim e.link [
  | None ↦ e
  | Some l ↦ record e { link = Some (record l { next = Some n }) }
]

-- the event at an index is linked so
abbrev pub set_next : (index next : ℕ) → List Event → List Event
set_next i n [] = []
set_next zero n (e ∷ es) = with_next n e ∷ es
set_next (suc i) n (e ∷ es) = e ∷ set_next i n es

abbrev pub linked : (previous : Option ℕ) → (next : ℕ) → List Event → List Event
linked None n es = es
linked (Some i) n es = set_next i n es
