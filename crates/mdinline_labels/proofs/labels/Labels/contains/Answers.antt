use Rattle.mdinline_labels.proofs.Prelude.{ap, ◌∙◌, is_eq, nat_cmp, slice_cmp, list_any, normalised}
use Rattle.mdinline_labels.proofs.Known.{found}
use Rattle.mdinline_labels.proofs.labels.Labels.contains.Goals as goal

pub returns : goal.returns
returns c =
    let is = c.as_slice.ensures.value ∙ c.in_ok-normal.ensures in
    c.contains.ensures
    ∙ ap (λ n. list_any (λ v. is_eq (slice_cmp nat_cmp n v.items)) c.args.self.now.normal.keys) is
    ∙ found (λ v. v.items) (normalised c.args.label.now) c.args.self.now.normal.keys
