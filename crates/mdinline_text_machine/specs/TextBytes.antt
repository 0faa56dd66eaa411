-- The classes of bytes of the machine of texts.
use Rattle.std.specs.Prelude.{ℕ, ◌==◌, ◌||◌, nat_lt, Bool, true, false, cond, Option, Some, None}
use Rattle.std.specs.Char.{is_ascii_alphabetic, is_ascii_alphanumeric, is_ascii_punctuation}
use Rattle.mdconstructs_tables.specs.Breaks.{is_white}
use Rattle.mdinline_text_machine.specs.Bytes.{is_line_feed, is_backtick, is_less_than, is_greater_than, is_backslash, is_ampersand, is_colon, is_scheme_mark}

-- The classes. Letters, digits and marks are the characters of schemes; white is a space or a tab, and a blank another ASCII control
-- character that is no line feed.
pub data TextByte : Type 0 where
  line_feed : TextByte
  backtick : TextByte
  less : TextByte
  greater : TextByte
  backslash : TextByte
  colon : TextByte
  letter : TextByte
  digit : TextByte
  mark : TextByte
  ampersand : TextByte
  white : TextByte
  punctuation : TextByte
  blank : TextByte
  other : TextByte

-- the class of a byte
abbrev pub text_byte : ℕ → TextByte
text_byte b =
    cond (is_line_feed b) line_feed (cond (is_backtick b) backtick (cond (is_less_than b) less (cond (is_greater_than b) greater (cond (is_backslash b) backslash (cond (is_colon b) colon
    (cond (is_ascii_alphabetic b) letter (cond (is_ascii_alphanumeric b) digit (cond (is_scheme_mark b) mark
    (cond (is_ampersand b) ampersand (cond (is_white b) white (cond (is_ascii_punctuation b) punctuation (cond (nat_lt b 33 || (b == 127)) blank other))))))))))))

-- the class is a backtick's
abbrev pub is_tick : Option TextByte → Bool
is_tick (Some backtick) = true
is_tick _ = false

-- data of a code span ends at the class: a line feed, a backtick, or the end
abbrev pub ends_code_data : Option TextByte → Bool
ends_code_data None = true
ends_code_data (Some line_feed) = true
ends_code_data (Some backtick) = true
ends_code_data _ = false

-- the class of a line feed
abbrev pub is_line_feed_class : TextByte → Bool
is_line_feed_class line_feed = true
is_line_feed_class _ = false

-- the class of a backtick
abbrev pub is_backtick_class : TextByte → Bool
is_backtick_class w = is_tick (Some w)

-- the class of `<`
abbrev pub is_less_class : TextByte → Bool
is_less_class less = true
is_less_class _ = false

-- the class of a backslash
abbrev pub is_backslash_class : TextByte → Bool
is_backslash_class backslash = true
is_backslash_class _ = false
