-- Digits of a base.
use Rattle.std.proofs.Common.{◌≡◌, ℕ, ◌<◌, ◌≤◌, Bool, true, List, [], ◌∷◌, length, arith}
use Rattle.std.proofs.lemmas.Bool.Decides.{nat_tests}
use Rattle.std.proofs.lemmas.Str.{IsUtf8-from_ascii}
use Rattle.std.proofs.lemmas.Str.Ascii.{IsAscii-cons, IsAscii-nil}
use Rattle.std.specs.Char.{digit_value}
use Rattle.std.specs.List.{list_all}
use Rattle.std.specs.Prelude.{nat_le, nat_lt, IsUtf8}
use Rattle.std.specs.Str.{IsAscii}
use Rattle.std.specs.Str.Parse.{AllDigits, IsNumeral}
use Rattle.markdown_base.proofs.Common.{and-right}
use Rattle.markdown_base.proofs.Facts.Bools.{and-left}
use Rattle.mddocument_link_targets.specs.Strings.{is_numeral}

module _ (base : ℕ) where
  abbrev is_one : ℕ → Bool
  is_one d = nat_lt (digit_value d) base

  -- digits of the base are what std calls so
  all-digits : (ds : List ℕ) → list_all is_one ds ≡ true → AllDigits base ds
  all-digits [] h = tt
  all-digits (d ∷ ds) h =
      let first : is_one d ≡ true = and-left (is_one d) (list_all is_one ds) h in
      (grind (arith, nat_tests), all-digits ds (and-right (is_one d) (list_all is_one ds) h))

  pub numerals : (ds : List ℕ) → is_numeral base ds ≡ true → IsNumeral base ds
  numerals ds h =
      let some : nat_le 1 (length ds) ≡ true = and-left (nat_le 1 (length ds)) (list_all is_one ds) h in
      (grind (arith, nat_tests), all-digits ds (and-right (nat_le 1 (length ds)) (list_all is_one ds) h))

  -- a digit of base 36 at most is a byte of ASCII
  small : base ≤ 36 → (d : ℕ) → is_one d ≡ true → d < 128
  small m d h = grind (arith, nat_tests)

  ascii : base ≤ 36 → (ds : List ℕ) → list_all is_one ds ≡ true → IsAscii ds
  ascii m [] h = IsAscii-nil
  ascii m (d ∷ ds) h =
      IsAscii-cons d ds (small m d (and-left (is_one d) (list_all is_one ds) h)) (ascii m ds (and-right (is_one d) (list_all is_one ds) h))

  pub numerals-utf8 : base ≤ 36 → (ds : List ℕ) → is_numeral base ds ≡ true → IsUtf8 ds
  numerals-utf8 m ds h = IsUtf8-from_ascii ds (ascii m ds (and-right (nat_le 1 (length ds)) (list_all is_one ds) h))
