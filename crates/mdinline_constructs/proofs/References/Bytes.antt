-- Character references by their bytes: they begin with `&`, and are a byte at least.
use Rattle.mdinline_constructs.proofs.Prelude.{◌≡◌, ℕ, ◌<◌, ◌==◌, ◌&&◌, List, ◌∷◌, Bool, true, false, cond, Option, Some, take, drop, sym, arith, nat_tests, prefix_len, IsApart, OfOption, only-there, when-there, has_byte_at, Found, item_length, by-class, text_byte, Kind, named, decimal, hexadecimal, is_number_sign, is_semicolon, is_value, is_value_byte, is_x, body_at, number_at, reference, reference_at, value_at, is_ampersand_class, references}

ampersand-classed : (b : ℕ) → is_ampersand_class (text_byte b) ≡ (b == 38)
ampersand-classed b =
    by-class (λ w. is_ampersand_class w ≡ (b == 38)) b
    (λ e. sym (grind (arith, nat_tests))) (λ e. sym (grind (arith, nat_tests))) (λ e. sym (grind (arith, nat_tests))) (λ e. sym (grind (arith, nat_tests)))
    (λ e. sym (grind (arith, nat_tests))) (λ e. sym (grind (arith, nat_tests))) (λ e. sym (grind (arith, nat_tests))) (λ n e. sym (grind (arith, nat_tests)))
    (λ e. sym (grind (arith, nat_tests))) (λ e. sym e) (λ e. sym (grind (arith, nat_tests))) (λ o e. sym o.9) (λ o e. sym o.9) (λ o n e. sym o.9)

-- what holds of each value holds of what is there
module _ (P : Found → Type 0) where
  pub either-there : (t : Bool) (o p : Option Found) → OfOption P o → OfOption P p → OfOption P (cond t o p)
  either-there true o p h k = h
  either-there false o p h k = k

  pub value-holds : (kind : Kind) (text : List ℕ) → P (reference kind (prefix_len (is_value_byte kind) text)) → OfOption P (value_at kind text)
  value-holds kind text h =
      let n = prefix_len (is_value_byte kind) text in
      when-there P (is_value kind (take n text) && has_byte_at text n is_semicolon) (Some (reference kind n)) h

  -- so what holds of all references does
  pub reference-holds : ((kind : Kind) (n : ℕ) → P (reference kind n)) → (text : List ℕ) → OfOption P (reference_at text)
  reference-holds h text =
      let number = drop 1 (drop 1 text) in
      when-there P (has_byte_at text 0 (λ b. b == 38)) (body_at (drop 1 text))
      (either-there (has_byte_at (drop 1 text) 0 is_number_sign) (number_at number) (value_at named (drop 1 text))
      (either-there (has_byte_at number 0 is_x) (value_at hexadecimal (drop 1 number)) (value_at decimal number) (value-holds hexadecimal (drop 1 number) (h hexadecimal _)) (value-holds decimal number (h decimal _)))
      (value-holds named (drop 1 text) (h named _)))

abbrev IsSome : Found → Type 0
IsSome item = 0 < item_length item

pub references-apart : IsApart text_byte item_length references
references-apart = record {
  classed = ampersand-classed;
  nowhere = λ b bs h. only-there (b == 38) _ h;
  some = λ b bs. reference-holds IsSome (λ kind n. omega arith) (b ∷ bs);
}
