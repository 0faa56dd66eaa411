-- How many calls character references take; and that they are no longer than the text.
use Rattle.mdinline_constructs.proofs.Prelude.{ℕ, ◌+◌, ◌≤◌, ◌==◌, ◌&&◌, List, [], ◌∷◌, Some, length, take, arith, and_parts, prefix_len, byte-within, OfOption, when-so, when-there, has_byte_at, Found, item_length, Kind, named, decimal, hexadecimal, is_number_sign, is_semicolon, is_value, is_value_byte, is_x, body_at, marks, number_at, reference, reference_at, value_at}
use Rattle.mdinline_constructs.proofs.References.Bytes.{either-there}

-- four at the marks, and 31 in the value, as none has more bytes
abbrev pub reference_calls : List ℕ → ℕ
reference_calls bs = 35

-- an item has at most so many bytes
abbrev IsUpto : ℕ → Found → Type 0
IsUpto n item = item_length item ≤ n

value-within : (kind : Kind) (text : List ℕ) (most : ℕ) → marks kind + length text ≤ most → OfOption (IsUpto most) (value_at kind text)
value-within kind text most h =
    let n = prefix_len (is_value_byte kind) text in
    let value = is_value kind (take n text) in
    let ends = has_byte_at text n is_semicolon in
    when-so (IsUpto most) (value && ends) (Some (reference kind n)) (λ e. omega (arith, h, byte-within is_semicolon text n (and_parts value ends e).1))

number-within : (text : List ℕ) (most : ℕ) → 2 + length text ≤ most → OfOption (IsUpto most) (number_at text)
number-within [] most h = value-within decimal [] most h
number-within (b ∷ bs) most h =
    either-there (IsUpto most) (is_x b) (value_at hexadecimal bs) (value_at decimal (b ∷ bs)) (value-within hexadecimal bs most (omega (arith, h))) (value-within decimal (b ∷ bs) most h)

body-within : (text : List ℕ) (most : ℕ) → 1 + length text ≤ most → OfOption (IsUpto most) (body_at text)
body-within [] most h = value-within named [] most h
body-within (b ∷ bs) most h =
    either-there (IsUpto most) (is_number_sign b) (number_at bs) (value_at named (b ∷ bs)) (number-within bs most (omega (arith, h))) (value-within named (b ∷ bs) most h)

-- a reference has no more bytes than the text
pub reference-within : (b : ℕ) (bs : List ℕ) → OfOption (λ (item : Found). item_length item ≤ length (b ∷ bs)) (reference_at (b ∷ bs))
reference-within b bs = when-there (IsUpto (length (b ∷ bs))) (b == 38) (body_at bs) (body-within bs (length (b ∷ bs)) (omega arith))
