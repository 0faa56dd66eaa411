-- The markers of the items of a list, by the events of a document (CommonMark 0.31, 5.3).
use Rattle.std.specs.Prelude.{◌≡◌, ℕ, All, Bool, true, false, List, [], ◌∷◌, None, Some, Option, option_and_then, slice_get}
use Rattle.markdown_base.specs.declared.event.Event.{Event}
use Rattle.markdown_base.specs.declared.event.Name.TheVariants.{ListItemMarker, ListItemPrefix, ListOrdered, ListUnordered}
use Rattle.markdown_tokenizer.specs.Text.{Given}
use Rattle.mdblock_containers.specs.declared.lists.Marker.{Marker}
use Rattle.mdblock_containers.specs.declared.lists.Marker.TheVariants.{Dash, Parenthesis, Period, Plus, Star}
use Rattle.mdblock_containers.specs.Lists.{behind_enter, first_in, items_in, list_marker, list_names, marker_of}
use Rattle.mdblock_definitions.specs.Blocks.{document_skeleton}

-- the marker of an item, by the events behind its enter: the byte at which the marker in its prefix begins
abbrev pub item_marker : (bytes : List ℕ) → List Event → Option Marker
item_marker bytes item =
    option_and_then (λ prefix. option_and_then (λ m. option_and_then marker_of (slice_get bytes m.event.point.index)) (first_in ListItemMarker prefix.behind)) (first_in ListItemPrefix item)

-- "A list is a sequence of one or more list items of the same type": of each list of a document, wherever it is entered, each item has the marker of
-- the list
abbrev pub ListsAreOfOneType : Type 0
ListsAreOfOneType =
    (g : Given) (at : ℕ) (list : List Event) → behind_enter list_names at (document_skeleton g) ≡ Some list
    → All (λ item. item_marker g.bytes item.behind ≡ list_marker g.bytes list) (items_in list)

-- "A bullet list marker is a `-`, `+`, or `*` character", and an ordered one ends in "either a `.` character or a `)` character" (5.2)
abbrev pub is_bullet : Option Marker → Bool
is_bullet (Some Dash) = true
is_bullet (Some Plus) = true
is_bullet (Some Star) = true
is_bullet (Some Period) = false
is_bullet (Some Parenthesis) = false
is_bullet None = false

abbrev pub is_delimiter : Option Marker → Bool
is_delimiter (Some Period) = true
is_delimiter (Some Parenthesis) = true
is_delimiter (Some Dash) = false
is_delimiter (Some Plus) = false
is_delimiter (Some Star) = false
is_delimiter None = false

-- "A list is an ordered list if its constituent list items begin with ordered list markers, and a bullet list if its constituent list items begin with
-- bullet list markers": so each list has a marker, and is named by it
abbrev pub ListsAreNamedByMarkers : Type 0
ListsAreNamedByMarkers =
    (g : Given) (at : ℕ) (list : List Event) → (behind_enter (ListOrdered ∷ []) at (document_skeleton g) ≡ Some list → is_delimiter (list_marker g.bytes list) ≡ true)
    × (behind_enter (ListUnordered ∷ []) at (document_skeleton g) ≡ Some list → is_bullet (list_marker g.bytes list) ≡ true)
