-- Facts of numbers as tests.
use Rattle.markdown_base.proofs.Prelude.{◌≡◌, ℕ, Bool, true, false, refl, sym, ap, ◌∙◌, ◌==◌, eqb-true, eq-eqb, ne_eqb, false≢true}

-- a comparison, with the other number first
pub eq-flip : (a b : ℕ) → (a == b) ≡ (b == a)
eq-flip a b = elim (b == a) as (λ t. (b == a) ≡ t → (a == b) ≡ t) [
  | true ↦ λ e. eq-eqb a b (sym (eqb-true b a e))
  | false ↦ λ e. ne_eqb a b (λ same. false≢true (sym e ∙ eq-eqb b a (sym same)))
] refl

-- a number that passes a test is none that fails it
pub unlike : (test : ℕ → Bool) (n : ℕ) → test n ≡ false → (b : ℕ) → test b ≡ true → (b == n) ≡ false
unlike test n off b on = ne_eqb b n (λ same. false≢true (sym off ∙ sym (ap test same) ∙ on))
