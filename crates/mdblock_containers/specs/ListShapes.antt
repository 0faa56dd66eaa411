-- The lists among events, and what is said of each.
use Rattle.std.specs.Prelude.{ℕ, suc, List, [], ◌∷◌, None, Some}
use Rattle.markdown_base.specs.declared.event.Event.{Event}
use Rattle.mdblock_containers.specs.declared.list_shapes.ListShape.{ListShape}
use Rattle.mdblock_containers.specs.Lists.{behind_first, is_loose, is_spread, item_names, list_marker, list_names, list_start}

-- what is said of a list, by the index of its enter and the events behind that
abbrev pub shape_of : (bytes : List ℕ) → (at : ℕ) → List Event → ListShape
shape_of bytes at inside = record { at = at; is_loose = is_loose inside; is_spread = is_spread item_names inside; marker = list_marker bytes inside; start = list_start bytes inside }

-- each list among events of which the first is at an index
abbrev pub shapes_from : (bytes : List ℕ) → (at : ℕ) → List Event → List ListShape
shapes_from bytes at [] = []
shapes_from bytes at (e ∷ es) =
    let rest = shapes_from bytes (suc at) es in
    elim (behind_first list_names (e ∷ es)) [ None ↦ rest | Some inside ↦ shape_of bytes at inside ∷ rest ]
