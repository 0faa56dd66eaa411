use Rattle.mdinline_labels.proofs.Prelude.{Decides-eqb, bytes_eq, normalised, refl, slice_eq-Decides, sym, ◌∙◌}
use Rattle.mdinline_labels.proofs.Known.{any-same}
use Rattle.mdinline_labels.proofs.labels.Labels.is_same.Goals as goal

pub returns : goal.returns
returns c = λ is label.
    any-same (λ v. v.items) (λ a b. slice_eq-Decides Decides-eqb a b _ refl) (bytes_eq (normalised label)) c.args.self.now.normal.keys c.args.others.now.normal.keys
    (sym c.eq.ensures ∙ is)
