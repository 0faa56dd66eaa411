-- Names of tags as numbers. As the bytes of a name come, they are digits in base 36, whatever their case.
use Rattle.std.specs.Char.{is_ascii_alphabetic, is_ascii_alphanumeric}
use Rattle.std.specs.List.{list_all}
use Rattle.std.specs.Prelude.{◌≡◌, ◌⊎◌, ◌↔◌, ℕ, ◌+◌, ◌-◌, ◌*◌, ◌==◌, ◌||◌, ◌&&◌, nat_lt, List, [], ◌∷◌, Bool, true, false, cond}
use Rattle.std.specs.Str.{str_to_ascii_lowercase}

-- the value of a byte as a digit: 48 is `0`, 65 is `A` and 97 is `a`
abbrev pub digit_of : ℕ → ℕ
digit_of byte = cond (nat_lt byte 58) (byte - 48) (cond (nat_lt byte 91) (byte - 55) (byte - 87))

-- no listed name has more than ten bytes, or a dash; 36 to the power of 10 stands for all that is none
abbrev pub no_name : ℕ
no_name = 3656158440062976

-- a number with one more digit, if it has fewer than ten: if it is below 36 to the power of 9
abbrev pub one_byte_more : ℕ → ℕ → ℕ
one_byte_more number byte = cond (nat_lt number 101559956668416) (36 * number + digit_of byte) no_name

-- the number behind these bytes, and that of a name
abbrev pub number_behind : ℕ → List ℕ → ℕ
number_behind number [] = number
number_behind number (byte ∷ bytes) = number_behind (one_byte_more number byte) bytes

abbrev pub number_of : List ℕ → ℕ
number_of = number_behind 0

-- it is the number of one of these names
abbrev pub is_number_in : List (List ℕ) → ℕ → Bool
is_number_in [] number = false
is_number_in (name ∷ names) number = (number == number_of name) || is_number_in names number

-- the name of a tag, without a dash: a letter, and then letters and digits (CommonMark, 6.6)
abbrev pub is_tag_name : List ℕ → Bool
is_tag_name [] = false
is_tag_name (byte ∷ bytes) = is_ascii_alphabetic byte && list_all is_ascii_alphanumeric bytes

-- it is one of these
abbrev pub IsListed : List ℕ → List (List ℕ) → Type 0
IsListed name [] = ⊥
IsListed name (listed ∷ names) = (name ≡ listed) ⊎ IsListed name names

-- names are told apart by their numbers: a name has the number of a listed one exactly if it is listed, in lowercase
abbrev pub AreToldApart : List (List ℕ) → Type 0
AreToldApart names = (name : List ℕ) → is_tag_name name ≡ true → (is_number_in names (number_of name) ≡ true) ↔ IsListed (str_to_ascii_lowercase name) names
