-- Autolinks by their bytes: they begin with `<`, and are a byte at least.
use Rattle.mdinline_text_machine.proofs.Prelude.{by-class, ◌≡◌, ℕ, ◌+◌, ◌<◌, ◌==◌, ◌∷◌, List, Option, Some, None, sym, arith, nat_tests, text_byte, is_less_class, is_less_than, is_greater_than, has_byte_at, uri, autolink, autolink_to, autolinks, Found, item_length}
use Rattle.mdinline_text_machine.proofs.Constructs.Apart.{IsApart, OfOption, only-there, when-there}

less-classed : (b : ℕ) → is_less_class (text_byte b) ≡ (b == 60)
less-classed b =
    by-class (λ w. is_less_class w ≡ (b == 60)) b
    (λ e. sym (grind (arith, nat_tests))) (λ e. sym (grind (arith, nat_tests))) (λ e. sym e) (λ e. sym (grind (arith, nat_tests)))
    (λ e. sym (grind (arith, nat_tests))) (λ e. sym (grind (arith, nat_tests))) (λ e. sym (grind (arith, nat_tests))) (λ n e. sym (grind (arith, nat_tests)))
    (λ e. sym (grind (arith, nat_tests))) (λ e. sym (grind (arith, nat_tests))) (λ e. sym (grind (arith, nat_tests))) (λ o e. sym (grind (arith, nat_tests))) (λ o e. sym (grind (arith, nat_tests))) (λ o n e. sym (grind (arith, nat_tests)))

abbrev IsSome : Found → Type 0
IsSome item = 0 < item_length item

link-positive : (text : List ℕ) (o : Option ℕ) → OfOption IsSome (autolink_to text o)
link-positive text None = tt
link-positive text (Some n) = when-there IsSome (has_byte_at text (n + 1) is_greater_than) (Some (autolink n)) (omega arith)

pub autolinks-apart : IsApart text_byte item_length autolinks
autolinks-apart = record {
  classed = less-classed;
  nowhere = λ b bs h. only-there (b == 60) _ h;
  some = λ b bs. (let text = b ∷ bs in when-there IsSome (has_byte_at text 0 is_less_than) (autolink_to text (uri bs)) (link-positive text (uri bs)));
}
