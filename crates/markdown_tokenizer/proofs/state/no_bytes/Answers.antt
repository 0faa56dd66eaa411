use Rattle.markdown_tokenizer.specs.declared.state.TheConstants.{NO_BYTES}
use Rattle.markdown_tokenizer.proofs.Prelude.{◌≡◌, Bool, true, false, refl, sym}
use Rattle.markdown_tokenizer.proofs.ByteSets.{passed}
use Rattle.markdown_tokenizer.proofs.state.no_bytes.Goals as goal

-- what is not true is false
is-false : (b : Bool) → (b ≡ true → false ≡ true) → b ≡ false
is-false true h = sym (h refl)
is-false false h = refl

pub returns : goal.returns
returns c = λ byte. is-false _ (passed (λ n. false) NO_BYTES refl byte)
