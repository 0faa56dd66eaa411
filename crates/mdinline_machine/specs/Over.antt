-- Bytes that states of inline text read over, whatever the options are.
use Rattle.std.specs.List.{range_with_len}
use Rattle.std.specs.Prelude.{ℕ, ◌&&◌, ◌||◌, not, nat_lt, Bool, List, map}
use Rattle.mdconstructs_tables.specs.Breaks.{is_white}
use Rattle.mdinline_text_machine.specs.Bytes.{is_backtick, is_greater_than, is_line_feed}
use Rattle.mdinline_constructs.specs.HtmlMarkedRows.{is_mark_byte}
use Rattle.mdinline_constructs.specs.HtmlTagRows.{is_quote}
use Rattle.mdinline_machine.specs.Beginnings.{beginnings, is_first}
use Rattle.mdinline_machine.specs.StringEvents.{is_string_special}

-- data goes on at the byte: it is no white space and no line ending, and nothing begins with it
abbrev pub is_in_data : ℕ → Bool
is_in_data byte = not (is_white byte || (is_line_feed byte || is_first beginnings byte))

-- data of a string does
abbrev pub is_in_string : ℕ → Bool
is_in_string byte = not (is_string_special byte)

-- data of a code span does
abbrev pub is_in_code : ℕ → Bool
is_in_code byte = not (is_line_feed byte || is_backtick byte)

-- raw HTML between marks does, where nothing of its closing mark is directly before: it is no line ending, and in no closing mark
abbrev pub is_in_marks : ℕ → Bool
is_in_marks byte = not (is_line_feed byte || (is_greater_than byte || is_mark_byte byte))

-- so does a value in quotes: it is no line ending and no quotation mark
abbrev pub is_in_quotes : ℕ → Bool
is_in_quotes byte = not (is_line_feed byte || is_quote byte)

-- The set of the bytes above CR that pass a test: for each byte, whether it is in it
abbrev pub set_of : (ℕ → Bool) → List Bool
set_of test = map (λ byte. nat_lt 13 byte && test byte) (range_with_len 0 256)
