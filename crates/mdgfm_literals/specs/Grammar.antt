-- Autolink literals (GFM, "Autolinks (extension)"): how long the literal at the front of a text is, if one is there, by the byte before it. Sizes are
-- of bytes; 0 says that nothing is there. The definitions have no states.
use Rattle.std.specs.Prelude.{◌≡◌, ◌≤◌, ℕ, zero, suc, ◌+◌, ◌-◌, ◌==◌, ◌&&◌, ◌||◌, not, nat_le, nat_lt, Bool, false, cond, List, [], ◌∷◌, codes, drop, take, length, slice_index, Option, None}
use Rattle.std.specs.Char.{is_ascii_alphabetic, is_ascii_alphanumeric}
use Rattle.std.specs.List.{prefix_len}
use Rattle.markdown_base.specs.declared.event.Name.TheVariants as name
use Rattle.mdgfm_literals.specs.declared.found.Found.{Found}
use Rattle.mdgfm_literals.specs.Bytes.{begins_with, count, ends_literal, first_passes, in_domain, in_host, in_local, is_space, is_trailing, is_wide, passes}
use Rattle.mdgfm_literals.specs.Found.{found, or_else}

-- ---- domains

-- How many bytes end with the last underscore that has fewer than two periods behind it
abbrev pub near : List ℕ → ℕ
near [] = 0
near (b ∷ bs) = let n = near bs in cond (nat_le 1 n) (n + 1) (cond ((b == 95) && nat_lt (count 46 bs) 2) 1 0)

-- the later of two ends, of which the first is in the segment before the last
abbrev pub last_of : (before last : ℕ) → ℕ
last_of before last = cond (nat_le 1 last) last before

-- both behind a byte that ends at an index
abbrev pub before_behind : (before last byte : ℕ) → ℕ
before_behind before last b = cond (b == 46) last before

abbrev pub last_behind : (last end byte : ℕ) → ℕ
last_behind last end b = cond (b == 46) 0 (cond (b == 95) end last)

-- the domain at the front of a text
abbrev pub domain_of : List ℕ → List ℕ
domain_of text = take (prefix_len in_domain text) text

-- "no underscores may be present in the last two segments of the domain"
abbrev pub begins_domain : List ℕ → Bool
begins_domain text = near (domain_of text) == 0

-- What is known of it at a text: its number, or nothing, which is 0
abbrev pub IsKnown : (known : ℕ) → List ℕ → Type 0
IsKnown known text = 1 ≤ known → near (domain_of text) ≡ known

-- ---- where a literal ends

-- how many letters end at an index
abbrev pub letters_before : List ℕ → (at : ℕ) → ℕ
letters_before text zero = 0
letters_before text (suc at) = let n = letters_before text at in cond (is_ascii_alphabetic (slice_index text at)) (n + 1) 0

-- how many bytes `&` and a name of letters have that end at an index
abbrev pub name_before : List ℕ → (at : ℕ) → ℕ
name_before text at =
    let n = letters_before text at in cond (nat_le 1 n && (nat_lt n at && (slice_index text (at - (n + 1)) == 38))) (n + 1) 0

-- How many bytes fall off with the last one, which is at an index: trailing punctuation; a closing parenthesis, if there is "a greater number of
-- closing parentheses than opening ones"; what "appears to resemble an entity reference", or its semicolon alone
abbrev pub off : (extra : Bool) → List ℕ → (at : ℕ) → ℕ
off extra text at =
    let b = slice_index text at in cond (b == 59) (name_before text at + 1) (cond (((b == 41) && extra) || is_trailing b) 1 0)

-- how many closing parentheses are left before the last byte
abbrev pub closing_before : (closing byte : ℕ) → ℕ
closing_before closing b = cond (b == 41) (closing - 1) closing

-- How many bytes are left if what falls off at the end is left out, with so many parentheses of each kind. The first `skip` fall off anyway
abbrev pub left : List ℕ → (opening closing skip size : ℕ) → ℕ
left text opening closing skip zero = 0
left text opening closing (suc skip) (suc size) = left text opening closing skip size
left text opening closing zero (suc size) =
    let n = off (nat_lt opening closing) text size in
    let less = left text opening (closing_before closing (slice_index text size)) (n - 1) size in
    cond (n == 0) (size + 1) less

abbrev pub trimmed : List ℕ → ℕ
trimmed text = left text (count 40 text) (count 41 text) 0 (length text)

-- "After a valid domain, zero or more non-space non-< characters may follow"
abbrev pub literal_size : List ℕ → ℕ
literal_size text = trimmed (take (prefix_len (λ b. not (ends_literal b)) text) text)

-- ---- literals at the front of a text

-- "at the beginning of a line, after whitespace, or any of the delimiting characters *, _, ~, and ("
abbrev pub may_be_before : ℕ → Bool
may_be_before b = is_space b || ((b == 42) || ((b == 95) || ((b == 126) || (b == 40))))

-- "when the text www. is found", where it may begin. Something of a segment is behind it
abbrev pub is_www : (before : Option ℕ) → List ℕ → Bool
is_www before text =
    not (passes (λ b. not (may_be_before b)) before) && ((slice_index text 0 == 119) && ((slice_index text 1 == 119) && ((slice_index text 2 == 119)
    && ((slice_index text 3 == 46) && first_passes (λ b. in_host b || is_wide b) (drop 4 text)))))

-- "An extended www autolink will be recognized when the text www. is found followed by a valid domain"
abbrev pub www_at : (before : Option ℕ) → List ℕ → Option Found
www_at before text = cond (is_www before text && begins_domain text) (found name.GfmAutolinkLiteralWww (literal_size text)) None

-- how many bytes a protocol has, with its marks: `http`, `https`, and `ftp` as of old
abbrev pub protocol_size : List ℕ → ℕ
protocol_size text =
    cond (begins_with (codes "http://") text) 7 (cond (begins_with (codes "https://") text) 8 (cond (begins_with (codes "ftp://") text) 6 0))

-- what is behind a protocol begins a domain
abbrev pub is_address : List ℕ → Bool
is_address text = first_passes (λ b. is_ascii_alphanumeric b || is_wide b) text && begins_domain text

-- "An extended url autolink will be recognised when one of the schemes .. followed by a valid domain". No letter comes before. One segment is enough
abbrev pub url_at : (before : Option ℕ) → List ℕ → Option Found
url_at before text =
    let n = protocol_size text in
    cond (nat_le 1 n && (not (passes is_ascii_alphabetic before) && is_address (drop n text))) (found name.GfmAutolinkLiteralProtocol (literal_size text)) None

-- ---- email addresses

-- a part of the domain of an address comes first: a byte of a segment, or a period before a letter or digit
abbrev pub goes_on : List ℕ → Bool
goes_on [] = false
goes_on (b ∷ bs) = in_host b || ((b == 46) && first_passes is_ascii_alphanumeric bs)

-- "characters which are alphanumeric, or - or _, separated by periods (.)"
abbrev pub host_size : List ℕ → ℕ
host_size [] = 0
host_size (b ∷ bs) = cond (goes_on (b ∷ bs)) (host_size bs + 1) 0

-- "There must be at least one period. The last character must not be one of - or _", nor a digit; and no other `@` comes behind it
abbrev pub is_host : (size : ℕ) → List ℕ → Bool
is_host size text =
    nat_le 1 (count 46 (take size text)) && (is_ascii_alphabetic (slice_index text (size - 1)) && not (first_passes (λ b. b == 64) (drop size text)))

-- "One or more characters .. An @ symbol. One or more characters .."
abbrev pub address_size : List ℕ → ℕ
address_size text =
    let n = prefix_len in_local text in
    let host = drop (n + 1) text in
    let m = host_size host in
    cond (nat_le 1 n && (first_passes (λ b. b == 64) (drop n text) && is_host m host)) (n + 1 + m) 0

-- an address behind a scheme, with the scheme
abbrev pub size_with : (scheme : List ℕ) → List ℕ → ℕ
size_with scheme text =
    let n = address_size (drop (length scheme) text) in cond (begins_with scheme text && nat_le 1 n) (length scheme + n) 0

-- `mailto:` or `xmpp:` and an address, with no letter or digit before
abbrev pub mail_at : (before : Option ℕ) → List ℕ → Option Found
mail_at before text =
    cond (passes is_ascii_alphanumeric before) None
    (or_else (found name.GfmAutolinkLiteralMailto (size_with (codes "mailto:") text)) (found name.GfmAutolinkLiteralXmpp (size_with (codes "xmpp:") text)))

-- an address, with nothing before that could be its first byte
abbrev pub email_at : (before : Option ℕ) → List ℕ → Option Found
email_at before text = cond (passes in_local before) None (found name.GfmAutolinkLiteralEmail (address_size text))

-- ---- all

-- The literal at the front of a text
abbrev pub literal_at : (before : Option ℕ) → List ℕ → Option Found
literal_at before text = or_else (www_at before text) (or_else (url_at before text) (or_else (mail_at before text) (email_at before text)))
