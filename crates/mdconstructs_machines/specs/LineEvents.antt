-- The events of documents that are read line by line. Each definition is about the text, and has no states.
use Rattle.std.specs.Prelude.{ℕ, ◌==◌, Bool, not, List, [], ◌∷◌, ◌++◌, cond, filter, take, drop}
use Rattle.std.specs.List.{flat_map}
use Rattle.markdown_base.specs.declared.event.Event.{Event}
use Rattle.markdown_base.specs.declared.event.Name.TheVariants.{Paragraph, Data, LineEnding}
use Rattle.markdown_base.specs.Virtual.{Seat}
use Rattle.mdconstructs_machines.specs.Spans.{span, leaf}

-- a line ending, which is one LF: CR LF and CR are read as LF
abbrev pub is_line_ending : Seat → Bool
is_line_ending s = s.byte == 10

-- the lines of virtual bytes that begin with this one, from the lines of the bytes after it
abbrev pub joined : Seat → List (List Seat) → List (List Seat)
joined s [] = (s ∷ []) ∷ []
joined s (line ∷ lines) = (s ∷ line) ∷ lines

-- The lines of virtual bytes. Each ends in its line ending; only the last may have none. No line is empty.
abbrev pub lines_in : List Seat → List (List Seat)
lines_in [] = []
lines_in (s ∷ ss) = cond (is_line_ending s) ((s ∷ []) ∷ lines_in ss) (joined s (lines_in ss))

-- the virtual bytes of a line before its line ending
abbrev pub line_text : List Seat → List Seat
line_text line = filter (λ s. not (is_line_ending s)) line

-- the line ending of a line, if it has one
abbrev pub ending_of : List Seat → List Seat
ending_of line = filter is_line_ending line

-- all virtual bytes of lines
abbrev pub all_of : List (List Seat) → List Seat
all_of lines = flat_map (λ line. line) lines

module _ (bytes : List ℕ) where
  -- data over a line before its line ending, and the line ending
  abbrev pub data_line : List Seat → List Event
  data_line line = leaf bytes Data (line_text line) ++ leaf bytes LineEnding (ending_of line)

  -- `Peek` and `Deep`: each line is data
  abbrev pub data_events : List Seat → List Event
  data_events seats = flat_map data_line (lines_in seats)

  -- a paragraph of data over a line before its line ending, and the line ending
  abbrev pub paragraph_line : List Seat → List Event
  paragraph_line line = span bytes Paragraph (line_text line) (leaf bytes Data (line_text line)) ++ leaf bytes LineEnding (ending_of line)

  -- `Lines`: each line is a paragraph of data
  abbrev pub line_events : List Seat → List Event
  line_events seats = flat_map paragraph_line (lines_in seats)

  -- `Save`: each line but the first is data
  abbrev pub save_events : List Seat → List Event
  save_events seats = flat_map data_line (drop 1 (lines_in seats))

  -- `Back`: the first line is data, with its line ending, and so is all the rest
  abbrev pub back_events : List Seat → List Event
  back_events seats = leaf bytes Data (all_of (take 1 (lines_in seats))) ++ leaf bytes Data (all_of (drop 1 (lines_in seats)))
