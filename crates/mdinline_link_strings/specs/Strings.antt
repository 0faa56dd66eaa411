-- Events in which strings are read: in place of the data that stands for a line of a destination, a title or a label come its escapes and
-- character references. The list has no links; one that has chunks is read by another pass.
use Rattle.std.specs.Prelude.{ℕ, ◌&&◌, ◌||◌, not, Bool, false, cond, List, [], ◌∷◌, ◌++◌, filter}
use Rattle.markdown_base.specs.declared.configuration.Constructs.{Constructs}
use Rattle.markdown_base.specs.declared.event.Event.{Event}
use Rattle.markdown_base.specs.declared.event.Name.{Name}
use Rattle.markdown_base.specs.declared.event.Name.TheVariants.{Data, DefinitionDestinationString, DefinitionLabelString, DefinitionTitleString, ReferenceString, ResourceDestinationString, ResourceTitleString}
use Rattle.markdown_base.specs.declared.event.Point.{Point}
use Rattle.markdown_base.specs.Events.{is_enter, same_name}
use Rattle.markdown_base.specs.Places.{in_range}
use Rattle.markdown_base.specs.Virtual.{Seat, virtual}
use Rattle.mdinline_constructs.specs.StringItems.{string_seat_events}

-- a string: of a destination, a title or a label
abbrev pub is_string : Name → Bool
is_string name =
    same_name name ResourceDestinationString || (same_name name ResourceTitleString || (same_name name ReferenceString
    || (same_name name DefinitionDestinationString || (same_name name DefinitionTitleString || same_name name DefinitionLabelString))))

-- whether an event stands in a string behind this one, by whether this one does
abbrev pub in_string_after : Bool → Event → Bool
in_string_after inside e = cond (is_string e.name) (is_enter e.kind) inside

-- two events are a span of data
abbrev pub is_data : Event → Event → Bool
is_data e f = (is_enter e.kind && same_name e.name Data) && (not (is_enter f.kind) && same_name f.name Data)

-- the virtual bytes of a document from a place up to another, with a tab stop at every t columns
abbrev pub seats_between : (t : ℕ) → List ℕ → (from to : Point) → List Seat
seats_between t bytes from to = filter (in_range from to) (virtual t bytes)

module _ (on : Constructs) (t : ℕ) (bytes : List ℕ) where
  -- what is between two places of the document, as a string
  abbrev pub line_as_string : (from to : Point) → List Event
  line_as_string from to = string_seat_events on bytes (seats_between t bytes from to)

  -- events, by whether the first one stands in a string: each span of data in a string is read as a string
  abbrev pub with_strings_from : (inside : Bool) → List Event → List Event
  with_strings_from inside [] = []
  with_strings_from inside (e ∷ []) = e ∷ []
  with_strings_from inside (e ∷ f ∷ es) =
      cond (inside && is_data e f) (line_as_string e.point f.point ++ with_strings_from inside es) (e ∷ with_strings_from (in_string_after inside e) (f ∷ es))

  -- Events with their strings read
  abbrev pub with_strings : List Event → List Event
  with_strings events = with_strings_from false events
