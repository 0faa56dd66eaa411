-- The bytes that may be escaped, ASCII punctuation, and those that may not.
use Rattle.markdown_tokenizer.specs.Configuration.{TokenizerValue}
use Rattle.mdinline_text_machine.proofs.Prelude.{sight_of, ap, ◌∙◌, by-class, ◌≡◌, ℕ, [], true, false, refl, Option, Some, arith, nat_tests, is_ascii_punctuation, Nok, row, TextByte, text_byte, escape_inside_rows, escaped, None, passes, class_of}

-- punctuation is escaped
pub escaped-class : {R D : Type 0} (before : Option TextByte) (b : ℕ) → is_ascii_punctuation b ≡ true → escape_inside_rows {R = R} {D = D} before (Some (text_byte b)) ≡ escaped
escaped-class {R = R} {D = D} before b h =
    by-class (λ w. escape_inside_rows {R = R} {D = D} before (Some w) ≡ escaped) b
    (λ e. absurd (grind (arith, nat_tests))) (λ e. refl) (λ e. refl) (λ e. refl) (λ e. refl) (λ e. refl)
    (λ e. absurd (grind (arith, nat_tests))) (λ e f. absurd (grind (arith, nat_tests))) (λ e. refl) (λ e. refl) (λ e. absurd (grind (arith, nat_tests))) (λ o e. refl) (λ o e. absurd (grind (arith, nat_tests))) (λ o n e. absurd (cc))

-- and no other byte is, nor the end
pub refused-class : {R D : Type 0} (before : Option TextByte) (o : Option ℕ) → passes is_ascii_punctuation o ≡ false → escape_inside_rows {R = R} {D = D} before (class_of text_byte o) ≡ row [] Nok
refused-class {R = R} {D = D} before None h = refl
refused-class {R = R} {D = D} before (Some b) h =
    by-class (λ w. escape_inside_rows {R = R} {D = D} before (Some w) ≡ row [] Nok) b
    (λ e. refl) (λ e. absurd (grind (arith, nat_tests))) (λ e. absurd (grind (arith, nat_tests))) (λ e. absurd (grind (arith, nat_tests))) (λ e. absurd (grind (arith, nat_tests))) (λ e. absurd (grind (arith, nat_tests))) (λ e. refl) (λ e f. refl) (λ e. absurd (grind (arith, nat_tests))) (λ e. absurd (grind (arith, nat_tests))) (λ e. refl) (λ o e. absurd (cc)) (λ o e. refl) (λ o n e. refl)

-- so it is in a tokenizer of any machine
pub escaped-in : {M R D : Type 0} (t : TokenizerValue M R D) (b : ℕ) → (sight_of t).current ≡ Some b → is_ascii_punctuation b ≡ true
    → escape_inside_rows {R = R} {D = D} (class_of text_byte (sight_of t).previous) (class_of text_byte (sight_of t).current) ≡ escaped
escaped-in {M} {R = R} {D = D} t b waits h =
    let before = class_of text_byte (sight_of t).previous in ap (λ o. escape_inside_rows {R = R} {D = D} before (class_of text_byte o)) waits ∙ escaped-class before b h

pub refused-in : {M R D : Type 0} (t : TokenizerValue M R D) (b : ℕ) → (sight_of t).current ≡ Some b → is_ascii_punctuation b ≡ false
    → escape_inside_rows {R = R} {D = D} (class_of text_byte (sight_of t).previous) (class_of text_byte (sight_of t).current) ≡ row [] Nok
refused-in {M} {R = R} {D = D} t b waits h =
    let before = class_of text_byte (sight_of t).previous in ap (λ o. escape_inside_rows {R = R} {D = D} before (class_of text_byte o)) waits ∙ refused-class before (Some b) h
