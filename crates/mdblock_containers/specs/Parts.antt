-- What the code keeps of a part of a document that is written, and how chunks of a stretch are written.
use Rattle.std.specs.Prelude.{ℕ, ◌||◌, Bool, cond, List, [], ◌∷◌, ◌++◌, length, reverse, Option, Some, None}
use Rattle.markdown_base.specs.declared.event.Content.{Content}
use Rattle.markdown_base.specs.declared.event.Event.{Event}
use Rattle.markdown_base.specs.declared.event.Kind.TheVariants.{Enter, Exit}
use Rattle.markdown_base.specs.declared.event.Name.TheVariants as name
use Rattle.markdown_base.specs.declared.event.Point.{Point}
use Rattle.mdblock_lines.specs.Containers.{Container}
use Rattle.mdblock_containers.specs.declared.parts.PartEnd.{PartEnd}
use Rattle.mdblock_containers.specs.Chunks.{chunk_enter, linked}
use Rattle.mdblock_containers.specs.PlaceEvents.{event_at}
use Rattle.mdblock_containers.specs.Prefixes.{containers_of}
use Rattle.mdblock_containers.specs.Rows.{Row}
use Rattle.mdblock_containers.specs.Skeleton.{left_in}

-- the containers of a line that is blank or not, where so many go on at the next line that is not left blank
abbrev pub stands_in : (is_blank : Bool) → (many number : ℕ) → List Container → List Container
stands_in is_blank many number all = cond is_blank (reverse (left_in many number (reverse all))) all

-- the open containers behind a line: a line that is left blank or lazy ends none
abbrev pub open_behind : List Container → Row → List Container
open_behind cs row = cond (row.is_left_blank || row.is_lazy) cs (containers_of row.went_on ++ containers_of row.begun)

-- the line ending behind a part, if it is outside
abbrev pub ending_at : PartEnd → List Event
ending_at e = elim e.behind [
  | None ↦ []
  | Some q ↦ event_at Enter (cond e.is_blank name.BlankLineEnding name.LineEnding) e.place ∷ event_at Exit (cond e.is_blank name.BlankLineEnding name.LineEnding) q ∷ []
]

-- a chunk of this content from one place to another behind events, linked to the one at an index, if there is one
abbrev pub with_chunk : Content → (previous : Option ℕ) → (from to : Point) → List Event → List Event
with_chunk c previous from to es = linked previous (length es) es ++ (chunk_enter c previous from ∷ event_at Exit name.Data to ∷ [])
