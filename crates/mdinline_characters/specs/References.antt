-- What character references mean.
use Rattle.std.specs.Char.{IsScalar}
use Rattle.std.specs.Map.{keys_of, lookup}
use Rattle.std.specs.List.{filter, find}
use Rattle.std.specs.Option.{option_or}
use Rattle.std.specs.Prelude.{◌≡◌, ◌≢◌, ◌==◌, ℕ, Bool, List, [], ◌∷◌, Option, None, Some, length, map, take, bytes_eq}
use Rattle.mdinline_characters.specs.CharacterReferences.{Reference, character_references}

-- the characters of the first of these references that has this name
abbrev pub characters_in : List Reference → List ℕ → Option (List ℕ)
characters_in references name = lookup (bytes_eq name) references

-- the characters of the reference with this name
unfoldable pub characters_of : List ℕ → Option (List ℕ)
characters_of name = characters_in character_references name

-- one code point, or two
abbrev pub code_points : (ℕ × Option ℕ) → List ℕ
code_points (first, None) = first ∷ []
code_points (first, Some second) = first ∷ second ∷ []

-- references of a list in code
abbrev pub read : List (List ℕ × ℕ × Option ℕ) → List Reference
read references = map (λ reference. (reference.0, code_points (reference.1, reference.2))) references

-- the character of a number: the one with this code point, or U+FFFD where the number is zero or no character's (CommonMark 0.31, 2.5)
pub record IsCharacterAt (number : ℕ) (character : ℕ) : Type 0 where
  pub there : IsScalar number → number ≢ 0 → character ≡ number
  pub none : ¬ IsScalar number → character ≡ 0xFFFD
  pub zero_is_none : number ≡ 0 → character ≡ 0xFFFD

-- the name begins with these bytes
abbrev pub starts_with : (start : List ℕ) → List ℕ → Bool
starts_with start name = bytes_eq (take (length start) name) start

-- the first name of these references that begins with these bytes
abbrev pub first_from : List Reference → (start : List ℕ) → Option (List ℕ)
first_from references start = find (starts_with start) (keys_of references)

-- the references whose names have this length
abbrev pub of_length : ℕ → List Reference → List Reference
of_length n references = filter (λ reference. length reference.0 == n) references

-- the lengths of names
abbrev pub lengths : List ℕ
lengths = 2 ∷ 3 ∷ 4 ∷ 5 ∷ 6 ∷ 7 ∷ 8 ∷ 9 ∷ 10 ∷ 11 ∷ 12 ∷ 13 ∷ 14 ∷ 15 ∷ 16 ∷ 17 ∷ 18 ∷ 19 ∷ 20 ∷ 21 ∷ 22 ∷ 23 ∷ 24 ∷ 31 ∷ []

-- a name of one of these lengths that begins with these bytes
abbrev pub name_among : (lengths : List ℕ) → (start : List ℕ) → Option (List ℕ)
name_among [] start = None
name_among (n ∷ ns) start = option_or (first_from (of_length n character_references) start) (name_among ns start)

-- a name that begins with these bytes: of the shortest the first, in the order of their bytes
unfoldable pub name_from : (start : List ℕ) → Option (List ℕ)
name_from start = name_among lengths start
