-- All tries for resources together are linear.
use Rattle.std.proofs.Common.{ℕ, ◌≡◌, ◌==◌, true, false, refl, sym, subst, arith}
use Rattle.std.proofs.lemmas.Bool.{eqb-true}
use Rattle.mdinline_link_tails.specs.Laws.{LooksAreLinear}
use Rattle.mdinline_link_tails.proofs.Looks.Behind.{behinds-within}
use Rattle.mdinline_link_tails.proofs.Looks.Compared.{looks-less}
use Rattle.mdinline_link_tails.proofs.Looks.Enclosed.{enclosed-within, split}
use Rattle.mdinline_link_tails.proofs.Looks.Gaps.{gaps-within, is_gap}
use Rattle.mdinline_link_tails.proofs.Looks.Raw.{raw-within}
use Rattle.mdinline_link_tails.proofs.Looks.Starts.{destinations-within, looks-made}

dark : (b : ℕ) → (b == 40) ≡ true → is_gap b ≡ false
dark b e = subst (λ k. is_gap k ≡ false) (sym (eqb-true b 40 e)) refl

pub looks-are-linear : LooksAreLinear
looks-are-linear text =
    omega (arith, looks-less text, looks-made false text, gaps-within (λ b. b == 40) dark text, destinations-within false false text, raw-within false false text, enclosed-within false false text, split false text, behinds-within true text, behinds-within false text)
