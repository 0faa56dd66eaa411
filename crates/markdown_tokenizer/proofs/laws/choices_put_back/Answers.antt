use Rattle.markdown_tokenizer.proofs.Prelude.{refl}
use Rattle.markdown_tokenizer.proofs.Runs.Later.{later-kept}
use Rattle.markdown_tokenizer.proofs.laws.choices_put_back.Goals as goal

pub returns : goal.returns
returns g c = record {
  kept = λ made now since. later-kept since;
  check = λ given text made now answer since. record { events = later-kept since; stack = refl; ended = refl; seen = refl; local = refl };
  attempt = λ given text made now since. record { events = later-kept since; stack = refl; ended = refl; seen = refl; local = refl };
}
