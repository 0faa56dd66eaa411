-- The class of a byte, by the tests in turn.
use Rattle.std.proofs.Common.{◌≡◌, ℕ, ◌==◌, ◌||◌, Bool, true, false, cond, refl, sym, arith}
use Rattle.std.specs.Prelude.{nat_lt}
use Rattle.std.specs.Char.{is_ascii_alphabetic, is_ascii_alphanumeric, is_ascii_punctuation}
use Rattle.std.proofs.lemmas.Bool.Decides.{nat_tests}
use Rattle.mdconstructs_tables.specs.Breaks.{is_white}
use Rattle.mdinline_text_machine.specs.Bytes.{is_scheme_mark}
use Rattle.mdinline_text_machine.specs.TextBytes.{TextByte, line_feed, backtick, less, greater, backslash, colon, letter, digit, mark, ampersand, white, punctuation, blank, other, text_byte, is_backtick_class}

-- what holds of a class that a test picks
by-test : (P : TextByte → Type 0) (b : Bool) (x y : TextByte) → (b ≡ true → P x) → (b ≡ false → P y) → P (cond b x y)
by-test P true x y h i = h refl
by-test P false x y h i = i refl

-- a byte of none of the classes that come first
abbrev pub IsAnother : ℕ → Type 0
IsAnother b =
    ((b == 10) ≡ false) × ((b == 96) ≡ false) × ((b == 60) ≡ false) × ((b == 62) ≡ false) × ((b == 92) ≡ false) × ((b == 58) ≡ false)
    × (is_ascii_alphabetic b ≡ false) × (is_ascii_alphanumeric b ≡ false) × (is_scheme_mark b ≡ false) × ((b == 38) ≡ false) × (is_white b ≡ false)

-- What holds of the class of a byte: it is enough that it holds of each class whose test the byte passes
pub by-class : (P : TextByte → Type 0) (b : ℕ)
    → ((b == 10) ≡ true → P line_feed) → ((b == 96) ≡ true → P backtick) → ((b == 60) ≡ true → P less) → ((b == 62) ≡ true → P greater)
    → ((b == 92) ≡ true → P backslash) → ((b == 58) ≡ true → P colon) → (is_ascii_alphabetic b ≡ true → P letter)
    → (is_ascii_alphabetic b ≡ false → is_ascii_alphanumeric b ≡ true → P digit) → (is_scheme_mark b ≡ true → P mark)
    → ((b == 38) ≡ true → P ampersand) → (is_white b ≡ true → P white)
    → (IsAnother b → is_ascii_punctuation b ≡ true → P punctuation) → (IsAnother b → (nat_lt b 33 || (b == 127)) ≡ true → P blank)
    → (IsAnother b → is_ascii_punctuation b ≡ false → (nat_lt b 33 || (b == 127)) ≡ false → P other) → P (text_byte b)
by-class P b at_lf at_tick at_less at_greater at_backslash at_colon at_letter at_digit at_mark at_ampersand at_white at_punctuation at_blank at_other =
    by-test P (b == 10) _ _ at_lf (λ no_lf. by-test P (b == 96) _ _ at_tick (λ no_tick. by-test P (b == 60) _ _ at_less (λ no_less.
    by-test P (b == 62) _ _ at_greater (λ no_greater. by-test P (b == 92) _ _ at_backslash (λ no_backslash. by-test P (b == 58) _ _ at_colon (λ no_colon.
    by-test P (is_ascii_alphabetic b) _ _ at_letter (λ no_letter. by-test P (is_ascii_alphanumeric b) _ _ (at_digit no_letter) (λ no_digit.
    by-test P (is_scheme_mark b) _ _ at_mark (λ no_mark. by-test P (b == 38) _ _ at_ampersand (λ no_ampersand. by-test P (is_white b) _ _ at_white (λ no_white.
    let another : IsAnother b = (no_lf, no_tick, no_less, no_greater, no_backslash, no_colon, no_letter, no_digit, no_mark, no_ampersand, no_white) in
    by-test P (is_ascii_punctuation b) _ _ (at_punctuation another) (λ no_punctuation. by-test P (nat_lt b 33 || (b == 127)) _ _ (at_blank another) (at_other another no_punctuation)))))))))))))

-- a class is a backtick's exactly if the byte is one
pub tick-classed : (b : ℕ) → is_backtick_class (text_byte b) ≡ (b == 96)
tick-classed b =
    by-class (λ w. is_backtick_class w ≡ (b == 96)) b
    (λ e. sym (grind (arith, nat_tests))) (λ e. sym e) (λ e. sym (grind (arith, nat_tests))) (λ e. sym (grind (arith, nat_tests)))
    (λ e. sym (grind (arith, nat_tests))) (λ e. sym (grind (arith, nat_tests))) (λ e. sym (grind (arith, nat_tests))) (λ n e. sym (grind (arith, nat_tests)))
    (λ e. sym (grind (arith, nat_tests))) (λ e. sym (grind (arith, nat_tests))) (λ e. sym (grind (arith, nat_tests))) (λ o e. sym (grind (arith, nat_tests))) (λ o e. sym (grind (arith, nat_tests))) (λ o n e. sym (grind (arith, nat_tests)))
