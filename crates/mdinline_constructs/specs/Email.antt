-- Email autolinks (CommonMark 0.31, 6.5), with no states.
use Rattle.std.specs.Prelude.{ℕ, ◌+◌, ◌==◌, ◌&&◌, ◌||◌, nat_le, nat_lt, Bool, cond, List, [], ◌∷◌, ◌++◌, take, drop, length, Option, Some, None, codes}
use Rattle.std.specs.List.{between, list_all, prefix_len}
use Rattle.std.specs.Char.{is_ascii_alphanumeric}
use Rattle.markdown_base.specs.declared.event.Name.TheVariants.{Autolink, AutolinkMarker, AutolinkEmail}
use Rattle.mdinline_text_machine.specs.Bytes.{is_less_than, is_greater_than, is_one_of, has_byte_at, ends_with}
use Rattle.mdinline_text_machine.specs.Construct.{Found, Grammar, plain}
use Rattle.mdinline_text_machine.specs.Parts.{span, leaf}

-- An email autolink, with the number of bytes between `<` and `>`. Its events: its markers, and its address
abbrev pub email : (inside : ℕ) → Found
email inside = record {
  size = inside + 2;
  mark = plain;
  events = λ bytes seats.
      span bytes Autolink seats
      (leaf bytes AutolinkMarker (take 1 seats)
      ++ (leaf bytes AutolinkEmail (between 1 (1 + inside) seats) ++ leaf bytes AutolinkMarker (drop (1 + inside) seats)));
}

-- `@`
abbrev pub is_at_sign : ℕ → Bool
is_at_sign byte = byte == 64

-- `.`
abbrev pub is_dot : ℕ → Bool
is_dot byte = byte == 46

-- `-`
abbrev pub is_hyphen : ℕ → Bool
is_hyphen byte = byte == 45

-- the characters before `@`: ASCII letters and digits, and any of ``.!#$%&'*+/=?^_`{|}~-``
abbrev pub is_atext : ℕ → Bool
is_atext byte = is_ascii_alphanumeric byte || is_one_of (codes ".!#$%&'*+/=?^_`{|}~-") byte

-- the characters of labels: ASCII letters, digits and `-`
abbrev pub is_label_byte : ℕ → Bool
is_label_byte byte = is_ascii_alphanumeric byte || is_hyphen byte

-- the characters of domains: those of labels, and `.`
abbrev pub is_domain_byte : ℕ → Bool
is_domain_byte byte = is_label_byte byte || is_dot byte

-- the most characters that a label has: the constant AUTOLINK_DOMAIN_SIZE_MAX
abbrev pub label_size_max : ℕ
label_size_max = 63

-- Label: 1 to 63 of these characters; the first and the last is an ASCII letter or digit
abbrev pub is_domain_label : List ℕ → Bool
is_domain_label name =
    nat_le (length name) label_size_max && (has_byte_at name 0 is_ascii_alphanumeric && (ends_with name is_ascii_alphanumeric && list_all is_label_byte name))

-- a byte put before the first of some pieces
abbrev pub before_first : ℕ → List (List ℕ) → List (List ℕ)
before_first byte [] = (byte ∷ []) ∷ []
before_first byte (piece ∷ pieces) = (byte ∷ piece) ∷ pieces

-- the pieces of a text between its dots
abbrev pub between_dots : List ℕ → List (List ℕ)
between_dots [] = [] ∷ []
between_dots (b ∷ bs) = cond (is_dot b) ([] ∷ between_dots bs) (before_first b (between_dots bs))

-- Domain: one or more labels with dots between them
abbrev pub is_domain : List ℕ → Bool
is_domain text = list_all is_domain_label (between_dots text)

-- an email autolink around an address with so many bytes before `@`: a domain follows that, and `>` the domain
abbrev pub email_with : List ℕ → (before : ℕ) → Option Found
email_with text n =
    let domain = drop (n + 2) text in
    let d = prefix_len is_domain_byte domain in
    cond (nat_lt 0 n && (has_byte_at text (n + 1) is_at_sign && (is_domain (take d domain) && has_byte_at domain d is_greater_than))) (Some (email (n + 1 + d))) None

-- Email autolink: `<`, one or more characters that may be before `@`, `@`, a domain, and `>`
abbrev pub email_at : List ℕ → Option Found
email_at text = cond (has_byte_at text 0 is_less_than) (email_with text (prefix_len is_atext (drop 1 text))) None

-- what email autolinks are
abbrev pub email_grammar : Grammar Found
email_grammar = record { first = is_less_than; on = λ on. on.autolink; front = email_at }
