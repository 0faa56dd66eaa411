-- The events of inline text, by its items, without states. What comes: a text is cut into items from the front (`inline_items`): constructs,
-- brackets, delimiter runs, line endings and data; each item has its events; links, images and emphasis take the place of brackets and runs.
use Rattle.std.specs.Prelude.{ℕ, ◌+◌, ◌==◌, ◌&&◌, ◌||◌, Bool, cond, List, [], ◌∷◌, ◌++◌, take, drop, length}
use Rattle.std.specs.List.{flat_map, prefix_len}
use Rattle.markdown_base.specs.declared.configuration.Constructs.{Constructs}
use Rattle.markdown_base.specs.declared.event.Event.{Event}
use Rattle.markdown_base.specs.declared.event.Name.TheVariants.{AttentionSequence, Data, LineEnding, SpaceOrTab}
use Rattle.markdown_base.specs.Virtual.{Seat}
use Rattle.markdown_tokenizer.specs.Text.{Given, Text}
use Rattle.mdconstructs_tables.specs.Breaks.{is_white}
use Rattle.mdinline_links.specs.Linked.{with_links}
use Rattle.mdinline_text_machine.specs.Autolink.{autolink_grammar}
use Rattle.mdinline_text_machine.specs.Bytes.{has_byte_at, is_line_feed}
use Rattle.mdinline_constructs.specs.LinedCode.{lined_code_grammar}
use Rattle.mdinline_text_machine.specs.Construct.{Found, Grammar, first_there, or_else, some_first, plain}
use Rattle.mdinline_text_machine.specs.Escape.{escape_grammar}
use Rattle.mdinline_text_machine.specs.Items.{item_length}
use Rattle.mdinline_text_machine.specs.Parts.{bytes_of, cut_remembering, first_plain, leaf}
use Rattle.mdinline_text_machine.specs.TextEvents.{item_events}
use Rattle.mdinline_constructs.specs.Email.{email_grammar}
use Rattle.mdinline_constructs.specs.HardBreak.{break_escape_grammar, trailing_break_grammar}
use Rattle.mdinline_constructs.specs.Reference.{reference_grammar}
use Rattle.mdinline_constructs.specs.HtmlMarked.{html_mark_grammar}
use Rattle.mdinline_constructs.specs.HtmlTag.{html_tag_grammar}
use Rattle.mdinline_constructs.specs.WhiteSpace.{is_white_left, white_space, white_space_grammar}
use Rattle.mdinline_machine.specs.Brackets.{Memory, after_item, begins_bracket, bracket_at, nothing_read}
use Rattle.mdinline_machine.specs.RunRows.{begins_run}

-- The constructs of inline text that begin with a mark: code spans, autolinks, email autolinks, raw HTML between marks, tags, backslash
-- escapes, hard breaks by a backslash, and character references
abbrev pub marked_grammars : List (Grammar Found)
marked_grammars = lined_code_grammar ∷ autolink_grammar ∷ email_grammar ∷ html_mark_grammar ∷ html_tag_grammar ∷ escape_grammar ∷ break_escape_grammar ∷ reference_grammar ∷ []

-- Those that begin with white space: hard breaks by spaces, and white space at the end of a line
abbrev pub white_grammars : List (Grammar Found)
white_grammars = trailing_break_grammar ∷ white_space_grammar ∷ []

-- The constructs of inline text
abbrev pub inline_grammars : List (Grammar Found)
inline_grammars = marked_grammars ++ white_grammars

-- how many bytes at the front of a text are like the first
abbrev pub run_length : List ℕ → ℕ
run_length [] = 0
run_length (b ∷ bs) = 1 + prefix_len (λ c. c == b) bs

-- A delimiter run of this many bytes. Its events: an attention sequence
abbrev pub delimiter_run : ℕ → Found
delimiter_run n = record { size = n; mark = plain; events = λ bytes seats. leaf bytes AttentionSequence seats }

-- A line ending, with this many bytes of white space behind it. Its events: both
abbrev pub line_break : (white : ℕ) → Found
line_break n = record { size = 1 + n; mark = plain; events = λ bytes seats. leaf bytes LineEnding (take 1 seats) ++ leaf bytes SpaceOrTab (drop 1 seats) }

-- Data of this many bytes
abbrev pub data_run : ℕ → Found
data_run n = record { size = n; mark = plain; events = λ bytes seats. leaf bytes Data seats }

-- how many bytes come before the first place at which a test of what is left holds
abbrev pub up_to : (List ℕ → Bool) → List ℕ → ℕ
up_to ends [] = 0
up_to ends (b ∷ bs) = cond (ends (b ∷ bs)) 0 (1 + up_to ends bs)

module _ (on : Constructs) where
  -- data ends at a byte that a line ending, a construct with a mark, a run, a bracket or an end may begin with
  abbrev pub ends_data : ℕ → Bool
  ends_data byte = is_line_feed byte || (some_first marked_grammars byte || (begins_run on byte || begins_bracket on byte))

  -- it ends at white space too if nothing else is left of the line
  abbrev pub ends_data_at : List ℕ → Bool
  ends_data_at text = has_byte_at text 0 ends_data || (has_byte_at text 0 is_white && is_white_left text)

  -- the length of data: a whole backtick string or else one byte, and all up to where it ends
  abbrev pub data_length : List ℕ → ℕ
  data_length text = let n = first_plain text in n + up_to ends_data_at (drop n text)

  -- what is there where neither a construct nor a bracket is: a run, a line ending with the white space behind it, or data
  abbrev pub run_or_part : List ℕ → Found
  run_or_part text =
      cond (has_byte_at text 0 (begins_run on)) (delimiter_run (run_length text))
      (cond (has_byte_at text 0 is_line_feed) (line_break (prefix_len is_white (drop 1 text)))
      (data_run (data_length text)))

  -- which labels are defined, and the bytes of the document
  module _ (defined : List ℕ → Bool) (bytes : List ℕ) where
    -- what is there where no construct is: a bracket or an end of a label, by what is remembered, or one of these
    abbrev pub bracket_or_part : Memory → List ℕ → Found
    bracket_or_part m text = or_else (bracket_at on defined bytes m text) (run_or_part text)

    -- The item at the front of a text, by what is remembered of those before it: a construct, a bracket, an end of a label, a run, a line ending, or data
    abbrev pub inline_item_at : Memory → List ℕ → Found
    inline_item_at m text = first_there inline_grammars on text (bracket_or_part m text)

    -- the items of a text, each with its virtual bytes: the white space that it begins with, and then what is cut from the front
    abbrev pub inline_items : List Seat → List (Found × List Seat)
    inline_items seats =
        let n = prefix_len is_white (bytes_of seats) in
        (white_space n, take n seats) ∷ cut_remembering (after_item bytes) inline_item_at item_length (length seats) (after_item bytes (nothing_read seats) (white_space n)) (drop n seats)

-- which labels are defined
module _ (defined : List ℕ → Bool) where
  -- the events that are read of a text: those of its items
  abbrev pub read_events : Given → Text → List Event
  read_events g text = flat_map (item_events g.bytes) (inline_items g.options.constructs defined g.bytes text.seats)

  -- The events of inline text: those, with links, images and emphasis in place of its brackets and runs
  abbrev pub inline_events : Given → Text → List Event
  inline_events g text = with_links g.options.gfm_strikethrough_single_tilde g.bytes (read_events g text)
