-- The bytes of data in a code span.
use Rattle.markdown_tokenizer.specs.Configuration.{TokenizerValue}
use Rattle.mdinline_text_machine.proofs.Prelude.{by-class, ◌≡◌, ℕ, [], ◌∷◌, false, refl, ap, ◌∙◌, Option, Some, arith, nat_tests, is_backtick_or_line_feed, sight_of, class_of, TextByte, text_byte, raw_text_data_rows, row, consume, Next, RawTextData}

-- each byte of data is read
pub at-data : {R D : Type 0} (before : Option TextByte) (b : ℕ) → is_backtick_or_line_feed b ≡ false → raw_text_data_rows {R = R} {D = D} before (Some (text_byte b)) ≡ row (consume ∷ []) (Next RawTextData)
at-data {R = R} {D = D} before b h =
    by-class (λ w. raw_text_data_rows {R = R} {D = D} before (Some w) ≡ row (consume ∷ []) (Next RawTextData)) b
    (λ e. absurd (grind (arith, nat_tests))) (λ e. absurd (grind (arith, nat_tests))) (λ e. refl) (λ e. refl) (λ e. refl) (λ e. refl) (λ e. refl) (λ e f. refl) (λ e. refl) (λ e. refl) (λ e. refl)
    (λ o e. refl) (λ o e. refl) (λ o n e. refl)

-- so it is in a tokenizer of any machine
pub data-in : {M R D : Type 0} (t : TokenizerValue M R D) (b : ℕ) → (sight_of t).current ≡ Some b → is_backtick_or_line_feed b ≡ false
    → raw_text_data_rows {R = R} {D = D} (class_of text_byte (sight_of t).previous) (class_of text_byte (sight_of t).current) ≡ row (consume ∷ []) (Next RawTextData)
data-in {M} {R = R} {D = D} t b waits h =
    let before = class_of text_byte (sight_of t).previous in ap (λ o. raw_text_data_rows {R = R} {D = D} before (class_of text_byte o)) waits ∙ at-data before b h
