-- The events of strings, by their items, without states: of info strings of fenced code, say.
use Rattle.std.specs.Prelude.{List}
use Rattle.markdown_base.specs.declared.event.Event.{Event}
use Rattle.markdown_tokenizer.specs.Text.{Given, Text}
pub use Rattle.mdinline_constructs.specs.StringItems.{is_string_special, string_data, string_grammars, string_item_at, string_items, string_part, string_seat_events}

-- The events of a string
abbrev pub string_events : Given → Text → List Event
string_events g text = string_seat_events g.options.constructs g.bytes text.seats
