-- Tags (CommonMark 0.31, 6.6), with no states.
use Rattle.std.specs.Prelude.{ℕ, zero, suc, ◌-◌, ◌==◌, ◌||◌, not, Bool, cond, List, drop, length, Option, Some, None, option_map, option_and_then, codes}
use Rattle.std.specs.List.{prefix_len}
use Rattle.std.specs.Char.{is_ascii_alphabetic, is_ascii_alphanumeric}
use Rattle.mdconstructs_tables.specs.Breaks.{is_white}
use Rattle.mdinline_text_machine.specs.Bytes.{has_byte_at, is_line_feed, is_less_than, is_greater_than, is_one_of}
use Rattle.mdinline_text_machine.specs.Construct.{Found, Grammar}
use Rattle.mdinline_constructs.specs.HtmlText.{html_of}

-- a slash
abbrev pub is_slash : ℕ → Bool
is_slash b = b == 47

-- an equals sign
abbrev pub is_equals_sign : ℕ → Bool
is_equals_sign b = b == 61

-- a double, or a single quotation mark
abbrev pub is_double_quote : ℕ → Bool
is_double_quote b = b == 34

abbrev pub is_single_quote : ℕ → Bool
is_single_quote b = b == 39

-- white space in a tag: spaces, tabs and line feeds
abbrev pub is_tag_white : ℕ → Bool
is_tag_white b = is_white b || is_line_feed b

-- the bytes of a tag name: ASCII letters, digits and `-`
abbrev pub is_tag_name_byte : ℕ → Bool
is_tag_name_byte b = is_ascii_alphanumeric b || is_one_of (codes "-") b

-- the bytes that an attribute name begins with: ASCII letters, `_` and `:`
abbrev pub begins_attribute_name : ℕ → Bool
begins_attribute_name b = is_ascii_alphabetic b || is_one_of (codes "_:") b

-- its bytes: ASCII letters, digits, `_`, `.`, `:` and `-`
abbrev pub is_attribute_name_byte : ℕ → Bool
is_attribute_name_byte b = is_ascii_alphanumeric b || is_one_of (codes "_.:-") b

-- the bytes of a value with no quotes: all but white space, `"`, `'`, `=`, `<`, `>` and backticks
abbrev pub is_unquoted : ℕ → Bool
is_unquoted b = not (is_tag_white b || is_one_of (codes "\"'=<>`") b)

-- what is behind the bytes at the front that pass a test
abbrev pub behind : (test : ℕ → Bool) → List ℕ → List ℕ
behind test t = drop (prefix_len test t) t

-- what is behind a byte, if it is there and passes the test
abbrev pub behind_one : (test : ℕ → Bool) → List ℕ → Option (List ℕ)
behind_one test t = cond (has_byte_at t 0 test) (Some (drop 1 t)) None

-- Tag name: an ASCII letter, and then bytes of tag names
abbrev pub behind_tag_name : List ℕ → Option (List ℕ)
behind_tag_name t = cond (has_byte_at t 0 is_ascii_alphabetic) (Some (behind is_tag_name_byte t)) None

-- Attribute value: bytes with no quotes, one at least; or any bytes up to the next quotation mark, in two of these
abbrev pub past_quote : (quote : ℕ) → List ℕ → Option (List ℕ)
past_quote quote t = behind_one (λ b. b == quote) (behind (λ b. not (b == quote)) t)

abbrev pub past_value : List ℕ → Option (List ℕ)
past_value t =
    cond (has_byte_at t 0 is_double_quote) (past_quote 34 (drop 1 t))
    (cond (has_byte_at t 0 is_single_quote) (past_quote 39 (drop 1 t)) (cond (has_byte_at t 0 is_unquoted) (Some (behind is_unquoted t)) None))

-- Attribute: its name, and maybe `=` and a value, each with white space before it or with none
abbrev pub past_attribute : List ℕ → Option (List ℕ)
past_attribute t =
    let rest = behind is_attribute_name_byte t in
    let more = behind is_tag_white rest in
    cond (has_byte_at t 0 begins_attribute_name) (cond (has_byte_at more 0 is_equals_sign) (past_value (behind is_tag_white (drop 1 more))) (Some rest)) None

-- Behind the name of an opening tag, with this many attributes at most: attributes, with white space before each; white space or none, maybe `/`, and `>`
abbrev pub behind_attributes : (bound : ℕ) → List ℕ → Option (List ℕ)
behind_attributes zero t = None
behind_attributes (suc bound) t =
    let more = behind is_tag_white t in
    cond (has_byte_at more 0 is_slash) (behind_one is_greater_than (drop 1 more))
    (cond (has_byte_at more 0 is_greater_than) (Some (drop 1 more))
    (cond (has_byte_at t 0 is_tag_white) (option_and_then (behind_attributes bound) (past_attribute more)) None))

-- Opening tag, from its name on
abbrev pub behind_opening : List ℕ → Option (List ℕ)
behind_opening t = option_and_then (λ rest. behind_attributes (suc (length rest)) rest) (behind_tag_name t)

-- Closing tag, from its name on: white space or none, and `>`
abbrev pub behind_closing : List ℕ → Option (List ℕ)
behind_closing t = option_and_then (λ rest. behind_one is_greater_than (behind is_tag_white rest)) (behind_tag_name t)

-- Tag: `<` and an opening tag, or `</` and a closing tag
abbrev pub behind_tag : List ℕ → Option (List ℕ)
behind_tag t = cond (has_byte_at t 0 is_less_than) (cond (has_byte_at t 1 is_slash) (behind_closing (drop 2 t)) (behind_opening (drop 1 t))) None

-- how many bytes a tag has
abbrev pub tag_length : List ℕ → Option ℕ
tag_length t = option_map (λ rest. length t - length rest) (behind_tag t)

-- what tags are
abbrev pub html_tag_grammar : Grammar Found
html_tag_grammar = record { first = is_less_than; on = λ on. on.html_text; front = λ text. html_of text (tag_length text) }
