-- Tests of bytes that constructs and classes have in common.
use Rattle.std.specs.Prelude.{ℕ, ◌==◌, Bool, false, List, Option, Some, None, codes, slice_get}
use Rattle.std.specs.List.{last_or, list_any, prefix_len}

-- there is a byte, and it passes the test
abbrev pub passes : (ℕ → Bool) → Option ℕ → Bool
passes test None = false
passes test (Some byte) = test byte

-- the text has a byte at p, and it passes the test
abbrev pub has_byte_at : (text : List ℕ) → (p : ℕ) → (test : ℕ → Bool) → Bool
has_byte_at text p test = passes test (slice_get text p)

-- the last byte of a text passes the test
abbrev pub ends_with : (text : List ℕ) → (test : ℕ → Bool) → Bool
ends_with text test = passes test (last_or None text)

-- a byte is one of these
abbrev pub is_one_of : (bytes : List ℕ) → (byte : ℕ) → Bool
is_one_of bytes byte = list_any (λ b. byte == b) bytes

-- a line feed
abbrev pub is_line_feed : ℕ → Bool
is_line_feed byte = byte == 10

-- a backtick
abbrev pub is_backtick : ℕ → Bool
is_backtick byte = byte == 96

-- `<`
abbrev pub is_less_than : ℕ → Bool
is_less_than byte = byte == 60

-- `>`
abbrev pub is_greater_than : ℕ → Bool
is_greater_than byte = byte == 62

-- a backslash
abbrev pub is_backslash : ℕ → Bool
is_backslash byte = byte == 92

-- `&`
abbrev pub is_ampersand : ℕ → Bool
is_ampersand byte = byte == 38

-- a colon
abbrev pub is_colon : ℕ → Bool
is_colon byte = byte == 58

-- `+`, `.` or `-`: schemes may have these, letters and digits
abbrev pub is_scheme_mark : ℕ → Bool
is_scheme_mark byte = is_one_of (codes "+.-") byte

-- a space
abbrev pub is_space : ℕ → Bool
is_space byte = byte == 32

-- how many backticks the text begins with
abbrev pub backticks : List ℕ → ℕ
backticks text = prefix_len is_backtick text
