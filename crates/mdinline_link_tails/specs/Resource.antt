-- Resources (CommonMark 0.31, 6.3): what stands in parentheses behind the text of an inline link, with no states. Which bytes they have is the
-- grammar of `mdinline_labels`; here is what events they have.
use Rattle.std.specs.Prelude.{ℕ, ◌-◌, ◌==◌, Bool, cond, List, ◌++◌, take, drop, length, Option, Some, None, option_map}
use Rattle.std.specs.List.{between, flat_map, prefix_len}
use Rattle.markdown_base.specs.declared.event.Event.{Event}
use Rattle.markdown_base.specs.declared.event.Name.{Name as EventName}
use Rattle.markdown_base.specs.declared.event.Name.TheVariants.{Data, LineEnding, SpaceOrTab, Resource, ResourceDestination, ResourceDestinationLiteral, ResourceDestinationLiteralMarker, ResourceDestinationRaw, ResourceDestinationString, ResourceMarker, ResourceTitle, ResourceTitleMarker, ResourceTitleString}
use Rattle.markdown_base.specs.Virtual.{Seat}
use Rattle.mdinline_labels.specs.declared.definitions.Stretch.{Stretch}
use Rattle.mdinline_labels.specs.declared.resources.Resource.{Resource as Parts}
use Rattle.mdinline_labels.specs.Definitions.{end}
use Rattle.mdinline_labels.specs.Resources.{resource_at}
use Rattle.mdinline_labels.specs.Tails.{begins_with, is_white}
use Rattle.mdinline_constructs.specs.HtmlText.{Piece, data_run, line_break, piece_at, piece_length}
use Rattle.mdinline_text_machine.specs.Construct.{Found, Grammar, plain}
use Rattle.mdinline_text_machine.specs.Parts.{bytes_of, cut, span, leaf}

-- `(`
abbrev pub is_open_parenthesis : ℕ → Bool
is_open_parenthesis b = b == 40

module _ (bytes : List ℕ) where
  -- a line ending of a string, and the white space that the next line begins with: "the paragraph's raw content is formed by concatenating the lines and
  -- removing initial and final spaces or tabs" (4.8); or data, up to the next line ending
  abbrev pub line_events : (Piece × List Seat) → List Event
  line_events (line_break n, seats) = leaf bytes LineEnding (take 1 seats) ++ leaf bytes SpaceOrTab (drop 1 seats)
  line_events (data_run n, seats) = leaf bytes Data seats

  -- A string, line by line. Its lines are read as data, so no event has a link
  abbrev pub string_events : List Seat → List Event
  string_events seats = flat_map line_events (cut piece_at piece_length (length seats) seats)

  -- the string of a destination, if there is one: it is in one line
  abbrev pub destination_string : List Seat → List Event
  destination_string seats = span bytes ResourceDestinationString seats (leaf bytes Data seats)

  -- the string of a title, if there is one
  abbrev pub title_string : List Seat → List Event
  title_string seats = span bytes ResourceTitleString seats (string_events seats)

  -- White space: spaces and tabs, and maybe a line ending with spaces and tabs behind it
  abbrev pub gap_events : List Seat → List Event
  gap_events seats =
      let rest = drop (prefix_len is_white (bytes_of seats)) seats in
      leaf bytes SpaceOrTab (take (prefix_len is_white (bytes_of seats)) seats) ++ (leaf bytes LineEnding (take 1 rest) ++ leaf bytes SpaceOrTab (drop 1 rest))

  -- A span whose first and last byte are marks, with what is between them
  abbrev pub in_marks : (name mark : EventName) → (inside : List Event) → List Seat → List Event
  in_marks name mark inside seats = span bytes name seats (leaf bytes mark (take 1 seats) ++ (inside ++ leaf bytes mark (drop (length seats - 1) seats)))

  -- what is between the marks
  abbrev pub unmarked : List Seat → List Seat
  unmarked seats = between 1 (length seats - 1) seats

  -- A destination, with its marks or without
  abbrev pub destination_events : List Seat → List Event
  destination_events seats =
      span bytes ResourceDestination seats
      (cond (begins_with 60 (bytes_of seats)) (in_marks ResourceDestinationLiteral ResourceDestinationLiteralMarker (destination_string (unmarked seats)) seats)
      (span bytes ResourceDestinationRaw seats (destination_string seats)))

  -- A title, with its marks
  abbrev pub title_events : List Seat → List Event
  title_events seats = in_marks ResourceTitle ResourceTitleMarker (title_string (unmarked seats)) seats

  -- What is behind a destination that ends there, up to the last byte: white space, with the title in it
  abbrev pub behind_destination : (title : Option Stretch) → (from last : ℕ) → List Seat → List Event
  behind_destination None from last seats = gap_events (between from last seats)
  behind_destination (Some t) from last seats = gap_events (between from t.from seats) ++ (title_events (between t.from (end t) seats) ++ gap_events (between (end t) last seats))

  -- What is between the parentheses: white space, with the destination in it
  abbrev pub in_resource : (destination title : Option Stretch) → (last : ℕ) → List Seat → List Event
  in_resource None title last seats = gap_events (between 1 last seats)
  in_resource (Some d) title last seats = gap_events (between 1 d.from seats) ++ (destination_events (between d.from (end d) seats) ++ behind_destination title (end d) last seats)

-- A resource. Its events: its parentheses, and its parts
abbrev pub resource : Parts → Found
resource r = record {
  size = r.size;
  mark = plain;
  events = λ bytes seats. in_marks bytes Resource ResourceMarker (in_resource bytes r.destination r.title (r.size - 1) seats) seats;
}

-- what resources are
abbrev pub resource_grammar : Grammar Found
resource_grammar = record { first = is_open_parenthesis; on = λ on. on.label_end; front = λ text. option_map resource (resource_at text) }
