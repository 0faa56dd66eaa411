use Rattle.std.specs.Prelude.{bytes_eq}
use Rattle.std.proofs.lemmas.List.{length-take-le}
use Rattle.std.proofs.lemmas.Slice.Eq.{bytes_eq-Decides}
use Rattle.markdown_tokenizer.proofs.Prelude.{◌≡◌, ◌∙◌, ℕ, ap, sym, take}
use Rattle.markdown_tokenizer.proofs.tokenizer.moved.begin_alike.Goals as goal

pub returns : goal.returns
returns c =
    let n = c.args.n in let one = c.args.one.now in let other = c.args.other.now in
    let decides = bytes_eq-Decides (take n one) (take n other) in
    let is : c.starts_with.result ≡ bytes_eq (take n one) (take n other) =
    c.starts_with.ensures.value ∙ ap (λ (k : ℕ). bytes_eq (take n one) (take k other)) (length-take-le n one c.requires) in
    ((λ e. decides.0 (sym is ∙ e)), (λ e. is ∙ decides.1 e))
