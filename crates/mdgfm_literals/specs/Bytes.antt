-- Bytes of autolink literals: which of them may stand where (GFM, "Autolinks (extension)").
use Rattle.std.specs.Prelude.{ℕ, ◌==◌, ◌&&◌, ◌||◌, nat_le, Bool, true, false, cond, List, [], ◌∷◌, drop, ◌+◌, Option, Some, None}
use Rattle.std.specs.Char.{is_ascii_alphanumeric, is_ascii_punctuation}

-- white space and line endings
abbrev pub is_space : ℕ → Bool
is_space b = (b == 32) || (nat_le 9 b && nat_le b 13)

-- a part of a character that is not ASCII
abbrev pub is_wide : ℕ → Bool
is_wide b = nat_le 128 b

-- "alphanumeric characters, underscores (_) and hyphens (-)"
abbrev pub in_host : ℕ → Bool
in_host b = is_ascii_alphanumeric b || ((b == 45) || (b == 95))

-- these, periods between them, and characters that are not ASCII: what a domain is made of
abbrev pub in_domain : ℕ → Bool
in_domain b = in_host b || ((b == 46) || is_wide b)

-- "characters which are alphanumeric, or ., -, _, or +": what stands before the `@` of an email address
abbrev pub in_local : ℕ → Bool
in_local b = in_host b || ((b == 46) || (b == 43))

-- white space, a line ending or `<` ends a literal: "zero or more non-space non-< characters may follow"
abbrev pub ends_literal : ℕ → Bool
ends_literal b = is_space b || (b == 60)

-- "Trailing punctuation (specifically, ?, !, ., ,, :, *, _, and ~) will not be considered part of the autolink", and no quotes
abbrev pub is_trailing : ℕ → Bool
is_trailing b =
    (b == 63) || ((b == 33) || ((b == 46) || ((b == 44) || ((b == 58) || ((b == 42) || ((b == 95) || ((b == 126) || ((b == 39) || (b == 34)))))))))

-- a capital letter as a small one
abbrev pub lower : ℕ → ℕ
lower b = cond (nat_le 65 b && nat_le b 90) (b + 32) b

-- a byte comes first, and it passes the test
abbrev pub first_passes : (ℕ → Bool) → List ℕ → Bool
first_passes test [] = false
first_passes test (b ∷ bs) = test b

-- a byte comes before, and it passes the test
abbrev pub passes : (ℕ → Bool) → (before : Option ℕ) → Bool
passes test None = false
passes test (Some b) = test b

-- a text begins with these small letters and marks, in any case
abbrev pub begins_with : (word : List ℕ) → List ℕ → Bool
begins_with [] text = true
begins_with (w ∷ ws) [] = false
begins_with (w ∷ ws) (b ∷ bs) = (lower b == w) && begins_with ws bs

-- how often a byte stands in a text
abbrev pub count : (byte : ℕ) → List ℕ → ℕ
count byte [] = 0
count byte (b ∷ bs) = cond (b == byte) (count byte bs + 1) (count byte bs)

-- a backslash hides the punctuation behind it
abbrev pub is_escape : List ℕ → Bool
is_escape text = first_passes (λ b. b == 92) text && first_passes is_ascii_punctuation (drop 1 text)
