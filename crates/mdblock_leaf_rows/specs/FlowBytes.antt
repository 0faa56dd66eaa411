-- The bytes that leaf blocks tell apart, and the rows of a state by their classes.
use Rattle.std.specs.Char.{is_ascii_alphabetic, is_ascii_digit}
use Rattle.std.specs.Prelude.{ℕ, ◌==◌, List, Bool, true, false, cond, Option, Some, None}
use Rattle.mdconstructs_tables.specs.Cases.{Case, cases, rows_in}
use Rattle.mdconstructs_tables.specs.Rows.{Rows}
use Rattle.mdconstructs_tables.specs.Breaks.{is_white}

-- The classes of bytes: a line ending; a space or a tab; a number sign; a star, an underscore or a dash, the marks of thematic breaks; an
-- equals sign, which underlines headings as a dash does; a grave accent or a tilde, the marks of fences; the bytes that HTML tells apart,
-- letters and digits each by itself; or another
pub data FlowByte : Type 0 where
  line_feed : FlowByte
  blank : FlowByte
  sign : FlowByte
  star : FlowByte
  underscore : FlowByte
  dash : FlowByte
  equals : FlowByte
  tick : FlowByte
  tilde : FlowByte
  less : FlowByte
  greater : FlowByte
  slash : FlowByte
  bang : FlowByte
  question : FlowByte
  opening : FlowByte
  closing : FlowByte
  double : FlowByte
  single : FlowByte
  colon : FlowByte
  dot : FlowByte
  letter : ℕ → FlowByte
  digit : ℕ → FlowByte
  other : FlowByte

-- the class of a byte that is no mark of a line's start: it matters in HTML alone
abbrev pub html_byte : ℕ → FlowByte
html_byte byte =
    cond (byte == 60) less (cond (byte == 62) greater (cond (byte == 47) slash (cond (byte == 33) bang (cond (byte == 63) question (cond (byte == 91) opening
    (cond (byte == 93) closing (cond (byte == 34) double (cond (byte == 39) single (cond (byte == 58) colon (cond (byte == 46) dot
    (cond (is_ascii_alphabetic byte) (letter byte) (cond (is_ascii_digit byte) (digit byte) other))))))))))))

-- the class of a byte that is neither a line ending nor white space
abbrev pub word_byte : ℕ → FlowByte
word_byte byte =
    cond (byte == 35) sign (cond (byte == 42) star (cond (byte == 95) underscore (cond (byte == 45) dash
    (cond (byte == 61) equals (cond (byte == 96) tick (cond (byte == 126) tilde (html_byte byte)))))))

-- the class of a byte
abbrev pub flow_byte : ℕ → FlowByte
flow_byte byte = cond (byte == 10) line_feed (cond (is_white byte) blank (word_byte byte))

-- a line ending
abbrev pub is_line_feed : FlowByte → Bool
is_line_feed line_feed = true
is_line_feed _ = false

-- a byte of a line
abbrev pub is_in_line : FlowByte → Bool
is_in_line line_feed = false
is_in_line _ = true

-- a space or a tab
abbrev pub is_blank : FlowByte → Bool
is_blank blank = true
is_blank _ = false

-- neither a line ending nor white space
abbrev pub is_word : FlowByte → Bool
is_word line_feed = false
is_word blank = false
is_word _ = true

-- a number sign
abbrev pub is_sign : FlowByte → Bool
is_sign sign = true
is_sign _ = false

-- each of the marks
abbrev pub is_star : FlowByte → Bool
is_star star = true
is_star _ = false

abbrev pub is_underscore : FlowByte → Bool
is_underscore underscore = true
is_underscore _ = false

abbrev pub is_dash : FlowByte → Bool
is_dash dash = true
is_dash _ = false

abbrev pub is_equals : FlowByte → Bool
is_equals equals = true
is_equals _ = false

abbrev pub is_tick : FlowByte → Bool
is_tick tick = true
is_tick _ = false

abbrev pub is_tilde : FlowByte → Bool
is_tilde tilde = true
is_tilde _ = false

-- a mark of thematic breaks
abbrev pub is_rule : FlowByte → Bool
is_rule star = true
is_rule underscore = true
is_rule dash = true
is_rule _ = false

-- a mark of underlines of headings
abbrev pub is_underline : FlowByte → Bool
is_underline dash = true
is_underline equals = true
is_underline _ = false

-- a mark of fences
abbrev pub is_fence : FlowByte → Bool
is_fence tick = true
is_fence tilde = true
is_fence _ = false

-- each of the bytes of HTML; a letter is any
abbrev pub is_less : FlowByte → Bool
is_less less = true
is_less _ = false

abbrev pub is_greater : FlowByte → Bool
is_greater greater = true
is_greater _ = false

abbrev pub is_slash : FlowByte → Bool
is_slash slash = true
is_slash _ = false

abbrev pub is_bang : FlowByte → Bool
is_bang bang = true
is_bang _ = false

abbrev pub is_question : FlowByte → Bool
is_question question = true
is_question _ = false

abbrev pub is_opening : FlowByte → Bool
is_opening opening = true
is_opening _ = false

abbrev pub is_closing : FlowByte → Bool
is_closing closing = true
is_closing _ = false

abbrev pub is_double : FlowByte → Bool
is_double double = true
is_double _ = false

abbrev pub is_single : FlowByte → Bool
is_single single = true
is_single _ = false

abbrev pub is_letter : FlowByte → Bool
is_letter (letter byte) = true
is_letter _ = false

-- a quotation mark
abbrev pub is_quote : FlowByte → Bool
is_quote double = true
is_quote single = true
is_quote _ = false

-- the name of an attribute may begin so, and may go on so (CommonMark, 6.6)
abbrev pub begins_name : FlowByte → Bool
begins_name (letter byte) = true
begins_name underscore = true
begins_name colon = true
begins_name _ = false

abbrev pub is_in_name : FlowByte → Bool
is_in_name (letter byte) = true
is_in_name (digit byte) = true
is_in_name underscore = true
is_in_name colon = true
is_in_name dot = true
is_in_name dash = true
is_in_name _ = false

-- a value without quotes may not begin so, and may not go on so
abbrev pub begins_no_value : FlowByte → Bool
begins_no_value less = true
begins_no_value equals = true
begins_no_value greater = true
begins_no_value tick = true
begins_no_value _ = false

abbrev pub is_in_no_value : FlowByte → Bool
is_in_no_value less = true
is_in_no_value equals = true
is_in_no_value tick = true
is_in_no_value double = true
is_in_no_value single = true
is_in_no_value _ = false

-- the byte of a letter or a digit
abbrev pub name_byte : FlowByte → Option ℕ
name_byte (letter byte) = Some byte
name_byte (digit byte) = Some byte
name_byte _ = None

-- The rows of a state: at the end, at the classes of each case, and at all others
pub record Cased (R D : Type 0) : Type 0 where
  pub at_end : Rows R D
  pub cases : List (Case FlowByte R D)
  pub rest : Rows R D

-- the same by the byte before, which does not matter, and by what waits
abbrev pub cased : {R D : Type 0} → Cased R D → (previous current : Option FlowByte) → Rows R D
cased c = cases c.at_end c.cases c.rest

-- by a byte if there is one, and else the rest
abbrev pub by_byte : {R D : Type 0} → Option ℕ → (by : ℕ → Rows R D) → (rest : Rows R D) → Rows R D
by_byte None by rest = rest
by_byte (Some byte) by rest = by byte

-- the same of a state in a name, which has a row for each letter and each digit
abbrev pub spelled : {R D : Type 0} → (by : ℕ → Rows R D) → Cased R D → (previous current : Option FlowByte) → Rows R D
spelled by c previous None = c.at_end
spelled by c previous (Some w) = by_byte (name_byte w) by (rows_in c.cases c.rest w)
