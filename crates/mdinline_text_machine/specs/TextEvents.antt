-- The events of a text, by its items. Their places come only from the virtual bytes. What comes: a text is cut into items from the front
-- (`items`); each item has its events (`item_events`); `text_events` are those of all items.
use Rattle.std.specs.Prelude.{ℕ, List, length}
use Rattle.std.specs.List.{flat_map}
use Rattle.markdown_base.specs.declared.configuration.Constructs.{Constructs}
use Rattle.markdown_base.specs.declared.event.Event.{Event}
use Rattle.markdown_base.specs.Virtual.{Seat}
use Rattle.markdown_tokenizer.specs.Text.{Given, Text}
use Rattle.mdinline_text_machine.specs.Construct.{Found}
use Rattle.mdinline_text_machine.specs.Items.{item_at, item_length}
use Rattle.mdinline_text_machine.specs.Parts.{cut}

-- the items of a text, each with its virtual bytes
abbrev pub items : Constructs → List Seat → List (Found × List Seat)
items on seats = cut (item_at on) item_length (length seats) seats

-- the events of an item
abbrev pub item_events : (bytes : List ℕ) → (Found × List Seat) → List Event
item_events bytes (item, seats) = item.events bytes seats

-- the events of virtual bytes of a document
abbrev pub seat_events : Constructs → (bytes : List ℕ) → List Seat → List Event
seat_events on bytes seats = flat_map (item_events bytes) (items on seats)

-- The events of a text
abbrev pub text_events : Given → Text → List Event
text_events g text = seat_events g.options.constructs g.bytes text.seats
