-- Backslash escapes by their bytes: they begin with a backslash, and are two bytes.
use Rattle.mdinline_text_machine.proofs.Prelude.{by-class, ◌≡◌, ℕ, ◌<◌, ◌==◌, ◌&&◌, ◌∷◌, Some, sym, ap, arith, nat_tests, text_byte, is_backslash_class, has_byte_at, is_ascii_punctuation, escape, escapes, Found, item_length}
use Rattle.mdinline_text_machine.proofs.Constructs.Apart.{IsApart, only-there, when-there}

backslash-classed : (b : ℕ) → is_backslash_class (text_byte b) ≡ (b == 92)
backslash-classed b =
    by-class (λ w. is_backslash_class w ≡ (b == 92)) b
    (λ e. sym (grind (arith, nat_tests))) (λ e. sym (grind (arith, nat_tests))) (λ e. sym (grind (arith, nat_tests))) (λ e. sym (grind (arith, nat_tests)))
    (λ e. sym e) (λ e. sym (grind (arith, nat_tests))) (λ e. sym (grind (arith, nat_tests))) (λ n e. sym (grind (arith, nat_tests)))
    (λ e. sym (grind (arith, nat_tests))) (λ e. sym (grind (arith, nat_tests))) (λ e. sym (grind (arith, nat_tests))) (λ o e. sym (grind (arith, nat_tests))) (λ o e. sym (grind (arith, nat_tests))) (λ o n e. sym (grind (arith, nat_tests)))

pub escapes-apart : IsApart text_byte item_length escapes
escapes-apart = record {
  classed = backslash-classed;
  nowhere = λ b bs h. only-there ((b == 92) && has_byte_at (b ∷ bs) 1 is_ascii_punctuation) (Some escape) (ap (λ t. t && has_byte_at (b ∷ bs) 1 is_ascii_punctuation) h);
  some = λ b bs. when-there (λ (item : Found). 0 < item_length item) ((b == 92) && has_byte_at (b ∷ bs) 1 is_ascii_punctuation) (Some escape) (omega arith);
}
