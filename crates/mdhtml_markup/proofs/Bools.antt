-- What differs by a test, and a property of an option.
use Rattle.std.proofs.Common.{◌≡◌, ℕ, ap, sym, refl, ◌∙◌, Option, None, Some}
use Rattle.std.specs.Prelude.{◌==◌, Bool, true, false}
use Rattle.std.proofs.lemmas.Bool.{false≢true}
use Rattle.std.proofs.lemmas.Bool.Decides.{Decides-eqb}

pub other-by : (c : Bool) (x y : Bool) → (c ≡ true → x ≡ y) → y ≡ false → x ≡ true → c ≡ false
other-by true x y f h k = absurd (false≢true (sym h ∙ sym (f refl) ∙ k))
other-by false x y f h k = refl

-- a number that passes a test is none that does not
pub is-other : (p : ℕ → Bool) (b n : ℕ) → p n ≡ false → p b ≡ true → (b == n) ≡ false
is-other p b n h k = other-by (b == n) (p b) (p n) (λ e. ap p ((Decides-eqb b n).0 e)) h k

-- a property of what there is
abbrev pub Then : {A : Type 0} → Option A → (A → Type 0) → Type 0
Then None P = ⊥
Then (Some x) P = P x
