-- Autolinks around absolute URIs (CommonMark 0.31, 6.5), with no states.
use Rattle.std.specs.Prelude.{ℕ, ◌+◌, ◌&&◌, ◌||◌, not, nat_le, Bool, cond, List, ◌++◌, take, drop, length, Option, Some, None, codes}
use Rattle.std.specs.List.{between, list_all, prefix_len}
use Rattle.std.specs.Char.{is_ascii_alphabetic, is_ascii_alphanumeric, is_ascii_control}
use Rattle.markdown_base.specs.declared.event.Name.TheVariants.{Autolink, AutolinkMarker, AutolinkProtocol}
use Rattle.mdinline_text_machine.specs.Bytes.{is_less_than, is_greater_than, is_colon, is_one_of, is_scheme_mark, has_byte_at}
use Rattle.mdinline_text_machine.specs.Construct.{Found, Grammar, plain}
use Rattle.mdinline_text_machine.specs.Parts.{span, leaf}

-- An autolink, with the number of bytes between `<` and `>`. Its events: its markers, and its URI
abbrev pub autolink : (inside : ℕ) → Found
autolink inside = record {
  size = inside + 2;
  mark = plain;
  events = λ bytes seats.
      span bytes Autolink seats
      (leaf bytes AutolinkMarker (take 1 seats)
      ++ (leaf bytes AutolinkProtocol (between 1 (1 + inside) seats) ++ leaf bytes AutolinkMarker (drop (1 + inside) seats)));
}

-- the characters of a scheme: ASCII letters, digits, `+`, `.` and `-`
abbrev pub is_scheme_byte : ℕ → Bool
is_scheme_byte byte = is_ascii_alphanumeric byte || is_scheme_mark byte

-- the most characters that a scheme has: the constant AUTOLINK_SCHEME_SIZE_MAX
abbrev pub scheme_size_max : ℕ
scheme_size_max = 32

-- Scheme: 2 to 32 of these characters; the first is an ASCII letter
abbrev pub is_scheme : List ℕ → Bool
is_scheme name = nat_le 2 (length name) && (nat_le (length name) scheme_size_max && (has_byte_at name 0 is_ascii_alphabetic && list_all is_scheme_byte name))

-- the characters of an absolute URI after its scheme and colon: all but ASCII control characters, space, `<` and `>`. Bytes from 128 on are
-- no ASCII control characters, so each character beyond ASCII is allowed.
abbrev pub is_allowed : ℕ → Bool
is_allowed byte = not (is_ascii_control byte || is_one_of (codes " <>") byte)

-- Absolute URI: a scheme, a colon, and zero or more such characters; how many bytes it has
abbrev pub uri : List ℕ → Option ℕ
uri text =
    let n = prefix_len is_scheme_byte text in
    cond (is_scheme (take n text) && has_byte_at text n is_colon) (Some (n + 1 + prefix_len is_allowed (drop (n + 1) text))) None

-- an autolink around an absolute URI of this many bytes: `>` follows it
abbrev pub autolink_to : List ℕ → Option ℕ → Option Found
autolink_to text None = None
autolink_to text (Some n) = cond (has_byte_at text (n + 1) is_greater_than) (Some (autolink n)) None

-- URI autolink: `<`, an absolute URI, and `>`
abbrev pub autolink_at : List ℕ → Option Found
autolink_at text = cond (has_byte_at text 0 is_less_than) (autolink_to text (uri (drop 1 text))) None

-- what autolinks are
abbrev pub autolink_grammar : Grammar Found
autolink_grammar = record { first = is_less_than; on = λ on. on.autolink; front = autolink_at }
