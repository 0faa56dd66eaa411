-- The bytes with which a scheme goes on, and those that refuse it.
use Rattle.markdown_tokenizer.specs.Configuration.{TokenizerValue}
use Rattle.mdinline_text_machine.proofs.Prelude.{by-class, ◌≡◌, ℕ, ◌==◌, [], true, false, refl, ap, ◌∙◌, Option, Some, None, arith, nat_tests, passes, is_scheme_byte, sight_of, class_of, TextByte, text_byte, autolink_scheme_rows, scheme_goes_on, row, Nok}

-- it goes on at the bytes of schemes, and may end at a colon
pub scheme-class : {R D : Type 0} (before : Option TextByte) (b : ℕ) → is_scheme_byte b ≡ true → autolink_scheme_rows {R = R} {D = D} before (Some (text_byte b)) ≡ scheme_goes_on
scheme-class {R = R} {D = D} before b h =
    by-class (λ w. autolink_scheme_rows {R = R} {D = D} before (Some w) ≡ scheme_goes_on) b
    (λ e. absurd (grind (arith, nat_tests))) (λ e. absurd (grind (arith, nat_tests))) (λ e. absurd (grind (arith, nat_tests))) (λ e. absurd (grind (arith, nat_tests)))
    (λ e. absurd (grind (arith, nat_tests))) (λ e. absurd (grind (arith, nat_tests))) (λ e. refl) (λ e f. refl) (λ e. refl) (λ e. absurd (grind (arith, nat_tests))) (λ e. absurd (grind (arith, nat_tests)))
    (λ o e. absurd (grind (arith, nat_tests, o))) (λ o e. absurd (grind (arith, nat_tests, o))) (λ o n e. absurd (grind (arith, nat_tests, o)))

-- any other byte refuses it, and so does the end
pub scheme-refused : {R D : Type 0} (before : Option TextByte) (o : Option ℕ) → passes is_scheme_byte o ≡ false → passes (λ b. b == 58) o ≡ false → autolink_scheme_rows {R = R} {D = D} before (class_of text_byte o) ≡ row [] Nok
scheme-refused {R = R} {D = D} before None h i = refl
scheme-refused {R = R} {D = D} before (Some b) h i =
    by-class (λ w. autolink_scheme_rows {R = R} {D = D} before (Some w) ≡ row [] Nok) b
    (λ e. refl) (λ e. refl) (λ e. refl) (λ e. refl) (λ e. refl) (λ e. absurd (cc))
    (λ e. absurd (grind (arith, nat_tests))) (λ e f. absurd (grind (arith, nat_tests))) (λ e. absurd (grind (arith, nat_tests))) (λ e. refl) (λ e. refl) (λ o e. refl) (λ o e. refl) (λ o n e. refl)

-- so it is in a tokenizer of any machine
pub scheme-in : {M R D : Type 0} (t : TokenizerValue M R D) (b : ℕ) → (sight_of t).current ≡ Some b → is_scheme_byte b ≡ true
    → autolink_scheme_rows {R = R} {D = D} (class_of text_byte (sight_of t).previous) (class_of text_byte (sight_of t).current) ≡ scheme_goes_on
scheme-in {M} {R = R} {D = D} t b waits h =
    let before = class_of text_byte (sight_of t).previous in ap (λ o. autolink_scheme_rows {R = R} {D = D} before (class_of text_byte o)) waits ∙ scheme-class before b h
