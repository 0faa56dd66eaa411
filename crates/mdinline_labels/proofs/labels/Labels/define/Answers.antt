use Rattle.mdinline_labels.proofs.Prelude.{ap, ◌∙◌, list_any, bytes_eq, ◌||◌, normalised, defines}
use Rattle.mdinline_labels.proofs.Known.{added}
use Rattle.mdinline_labels.proofs.labels.Labels.define.Goals as goal

pub returns-clause-defined : goal.returns-clause-defined
returns-clause-defined c = λ other.
    ap (λ ks. list_any (λ v. bytes_eq (normalised other) v.items) ks) c.in_ok-insert.ensures.keys
    ∙ added (λ v. v.items) (normalised other) c.in_ok-normal.normal c.args.self.now.normal.keys
    ∙ ap (λ bs. bytes_eq (normalised other) bs || defines c.args.self.now other) c.in_ok-normal.ensures
