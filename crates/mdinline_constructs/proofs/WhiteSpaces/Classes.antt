-- The class of white space.
use Rattle.mdinline_constructs.proofs.Prelude.{◌≡◌, ℕ, ◌==◌, ◌||◌, true, false, ap, refl, arith, nat_tests, is_white, text_byte, white}

-- white space is of its class
pub white-class : (b : ℕ) → is_white b ≡ true → text_byte b ≡ white
white-class b h = elim (b == 32) as (λ t. (b == 32) ≡ t → (t || (b == 9)) ≡ true → text_byte b ≡ white) [
  | true ↦ λ e i. let same : b ≡ 32 = grind (arith, nat_tests) in ap text_byte same
  | false ↦ λ e i. let same : b ≡ 9 = grind (arith, nat_tests) in ap text_byte same
] refl h
