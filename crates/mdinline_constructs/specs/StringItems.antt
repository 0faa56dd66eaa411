-- The items of strings (CommonMark 0.31, 2.4 "Backslash escapes", 2.5 "Entity and numeric character references"), without states: of destinations
-- and titles, say. Virtual bytes are cut into items from the front; an item is a construct, a line ending or data; each has its events.
use Rattle.std.specs.Prelude.{ℕ, ◌+◌, ◌||◌, Bool, cond, List, [], ◌∷◌, drop, length}
use Rattle.std.specs.List.{flat_map, position_or_len}
use Rattle.markdown_base.specs.declared.configuration.Constructs.{Constructs}
use Rattle.markdown_base.specs.declared.event.Event.{Event}
use Rattle.markdown_base.specs.Virtual.{Seat}
use Rattle.mdinline_text_machine.specs.Bytes.{has_byte_at, is_line_feed}
use Rattle.mdinline_text_machine.specs.Construct.{Found, Grammar, first_there, some_first}
use Rattle.mdinline_text_machine.specs.Escape.{escape_grammar}
use Rattle.mdinline_text_machine.specs.Items.{item_length}
use Rattle.mdinline_text_machine.specs.Parts.{cut, line_ending, part, plain_run}
use Rattle.mdinline_text_machine.specs.TextEvents.{item_events}
use Rattle.mdinline_constructs.specs.Reference.{reference_grammar}

-- The constructs of strings: backslash escapes and character references
abbrev pub string_grammars : List (Grammar Found)
string_grammars = escape_grammar ∷ reference_grammar ∷ []

-- the bytes that a line ending or a construct may begin with
abbrev pub is_string_special : ℕ → Bool
is_string_special byte = is_line_feed byte || some_first string_grammars byte

-- data: a byte, and all up to the next byte with which another item may begin
abbrev pub string_data : List ℕ → Found
string_data text = part (plain_run (1 + position_or_len is_string_special (drop 1 text)))

-- a line ending, or else data
abbrev pub string_part : List ℕ → Found
string_part text = cond (has_byte_at text 0 is_line_feed) (part line_ending) (string_data text)

-- The item at the front of a string
abbrev pub string_item_at : Constructs → List ℕ → Found
string_item_at on text = first_there string_grammars on text (string_part text)

-- the items of virtual bytes, each with its own
abbrev pub string_items : Constructs → List Seat → List (Found × List Seat)
string_items on seats = cut (string_item_at on) item_length (length seats) seats

-- the events of virtual bytes of a document, as a string
abbrev pub string_seat_events : Constructs → (bytes : List ℕ) → List Seat → List Event
string_seat_events on bytes seats = flat_map (item_events bytes) (string_items on seats)
