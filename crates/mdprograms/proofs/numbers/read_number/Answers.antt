use Rattle.mdprograms.proofs.Prelude.{rules, ◌≡◌, ℕ, ◌<◌, ◌^◌, ◌∷◌, [], true, List, None, Err, Ok, arith, sym, ◌∙◌, length, nat_lt, then_some, is_ascii_digit, list_all, digits_value, nat_tests, IsNumeralModel, numerals_by_value, parse_digits, decimal_of}
use Rattle.mdprograms.proofs.numbers.read_number.Goals as goal

digits : IsNumeralModel (λ ds. list_all is_ascii_digit ds ≡ true) (digits_value 10)
digits = numerals_by_value _ (search rules)

found : (word : List ℕ) (n : ℕ) → list_all is_ascii_digit word ≡ true → n ≡ digits_value 10 word → n < 2 ^ 64 → then_some (nat_lt 0 n) n ≡ decimal_of word
found word n decimal is fits = rw (decimal, ← is) (grind (arith, nat_tests))

not-empty : (word : List ℕ) → 0 < digits_value 10 word → 0 < length word
not-empty [] h = absurd (omega (arith, h))
not-empty (c ∷ cs) h = omega arith

refused : (word : List ℕ) → list_all is_ascii_digit word ≡ true → (0 < length word × digits_value 10 word < 2 ^ 64 → ⊥) → None ≡ decimal_of word
refused word decimal never =
    let some = not-empty word in
    let out : 0 < digits_value 10 word → digits_value 10 word < 2 ^ 64 → ⊥ = λ above fits. never (some above, fits) in
    rw decimal (grind (arith, nat_tests))

pub returns-in-Ok-clause-number : goal.returns-in-Ok-clause-number
returns-in-Ok-clause-number c =
    let word = c.args.word.now in
    let decimal = sym c.is_decimal.ensures ∙ c.if-not-is_decimal.false in
    let (fits, is) = parse_digits digits {E = ℕ} 64 word (Ok c.in-Ok.number) c.in-Ok.ensures.value.0 decimal in
    c.then_some.ensures ∙ found word c.in-Ok.number decimal is (omega (arith, fits.1, is))

pub returns-in-Err-clause-number : goal.returns-in-Err-clause-number
returns-in-Err-clause-number c =
    let word = c.args.word.now in
    let decimal = sym c.is_decimal.ensures ∙ c.if-not-is_decimal.false in
    refused word decimal (parse_digits digits 64 word (Err c.in-Err.field-0) c.in-Err.ensures.value.0 decimal)
