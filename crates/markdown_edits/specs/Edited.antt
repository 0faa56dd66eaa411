-- A list of events after edits.
use Rattle.std.specs.Prelude.{List, map}
use Rattle.markdown_base.specs.declared.event.Event.{Event}
use Rattle.markdown_edits.specs.Edits.{Edit}
use Rattle.markdown_edits.specs.Woven.{Tagged, of_addition, Change, changed}

-- an event that an edit adds
abbrev pub as_addition : Event → Tagged
as_addition e = record { identity = of_addition; event = e }

-- an edit as a change
abbrev pub as_change : Edit → Change
as_change e = record { index = e.index; remove = e.remove; events = map as_addition e.additions }

-- the list after all edits at once
abbrev pub edited : List Edit → List Event → List Event
edited es xs = changed (map as_change es) xs
