-- The events of a reading that a caller keeps between calls.
use Rattle.std.specs.Prelude.{◌≡◌, Option, List, []}
use Rattle.std.specs.Option.{option_map_or}
use Rattle.std.specs.Global.{Box, Vec}
use Rattle.markdown.specs.declared.event.Event.{Event}
use Rattle.limecove.specs.declared.kept.Reading.{Reading}

-- the events of a reading; it has none if it is not open
abbrev pub events_in : Reading → List Event
events_in reading = option_map_or (λ list. list.items) reading.kept.list []

-- the events of a list; none if there is no list
abbrev pub listed : Option (Box (Vec Event)) → List Event
listed found = option_map_or (λ list. list.value.items) found []

-- A reading that has no list
abbrev pub IsClosed : Reading → Type 0
IsClosed reading = (reading.is_open ≡ 0) × (events_in reading ≡ [])
