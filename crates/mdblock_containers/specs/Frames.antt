-- Spans of containers that are open, as the code keeps them.
use Rattle.std.specs.Prelude.{ℕ, nat_le, cond, List, [], ◌∷◌, Option, Some, None, map, reverse}
use Rattle.markdown_base.specs.declared.event.Event.{Event}
use Rattle.markdown_base.specs.declared.event.Kind.TheVariants.{Exit}
use Rattle.markdown_base.specs.declared.event.Name.{Name}
use Rattle.markdown_base.specs.declared.event.Name.TheVariants as name
use Rattle.markdown_base.specs.declared.event.Point.{Point}
use Rattle.mdblock_containers.specs.declared.frames.Frame.{Frame}
use Rattle.mdblock_containers.specs.PlaceEvents.{event_at}
use Rattle.mdblock_containers.specs.Skeleton as skeleton

-- a span of a container
abbrev pub frame_of : Frame → skeleton.Frame
frame_of f = record { name = f.name; line = f.line }

-- the name of a list, by how many digits its markers have
abbrev pub list_name_of : (digits : ℕ) → Name
list_name_of digits = cond (nat_le 1 digits) name.ListOrdered name.ListUnordered

-- spans end at a place, the innermost first
abbrev pub exits_at : Point → List Frame → List Event
exits_at place frames = map (λ f. event_at Exit f.name place) (reverse frames)

-- the span of a list that goes on, if one does
abbrev pub frames_in : Option Frame → List skeleton.Frame
frames_in None = []
frames_in (Some f) = frame_of f ∷ []
