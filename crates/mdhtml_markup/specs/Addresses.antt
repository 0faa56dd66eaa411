-- How addresses are written in HTML.
use Rattle.std.specs.List.{flat_map}
use Rattle.std.specs.Prelude.{ℕ, ◌==◌, cond, List, [], ◌∷◌, codes, slice_index_or, ◌/◌, ◌%◌}
use Rattle.mdhtml_markup.specs.declared.addresses.Place.{Place}
use Rattle.mdhtml_markup.specs.SafeHtml.{is_address_byte, is_allowed}

-- a digit of base 16
abbrev pub hex_digit : ℕ → ℕ
hex_digit n = slice_index_or (codes "0123456789ABCDEF") n 48

-- A byte of an address: itself, or "percent-encoded", by its number. NUL is U+FFFD, as everywhere
abbrev pub address_byte : ℕ → List ℕ
address_byte b =
    cond (is_address_byte b) (b ∷ [])
    (cond (b == 0) (codes "%EF%BF%BD") (37 ∷ hex_digit (b / 16) ∷ hex_digit (b % 16) ∷ []))

-- an address
abbrev pub address : List ℕ → List ℕ
address url = flat_map address_byte url

-- a byte of an address in quotes
abbrev pub quoted_byte : ℕ → List ℕ
quoted_byte b = cond (b == 38) (codes "&amp;") (cond (b == 39) (codes "&#x27;") (b ∷ []))

-- what is written of a byte of an address
abbrev pub written_byte : ℕ → List ℕ
written_byte b = flat_map quoted_byte (address_byte b)

-- what is written of an address
abbrev pub written_address : List ℕ → List ℕ
written_address url = flat_map written_byte url

-- the address that is written in place of another: that itself, or none
abbrev pub allowed : Place → List ℕ → List ℕ
allowed place url = cond (is_allowed place url) url []
