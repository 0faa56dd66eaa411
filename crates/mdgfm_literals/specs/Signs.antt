-- Signs of autolink literals: an email address has `@`, a protocol has `:/`, and `www.` has `ww`.
use Rattle.std.specs.Prelude.{ℕ, ◌==◌, ◌&&◌, ◌||◌, Bool, false, List, [], ◌∷◌, drop}
use Rattle.mdgfm_literals.specs.Bytes.{first_passes}

-- these two bytes come first
abbrev pub begins_both : (first second : ℕ) → List ℕ → Bool
begins_both first second text = first_passes (λ b. b == first) text && first_passes (λ b. b == second) (drop 1 text)

-- a sign comes first
abbrev pub begins_sign : List ℕ → Bool
begins_sign text = first_passes (λ b. b == 64) text || (begins_both 58 47 text || begins_both 119 119 text)

-- a sign is in a text
abbrev pub has_sign : List ℕ → Bool
has_sign [] = false
has_sign (b ∷ bs) = begins_sign (b ∷ bs) || has_sign bs
