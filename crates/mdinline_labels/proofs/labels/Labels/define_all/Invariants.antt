use Rattle.std.specs.List.{list_any}
use Rattle.std.specs.Prelude.{◌≡◌, ◌||◌, List, ℕ, bytes_eq}
use Rattle.mdinline_labels.specs.Defined.{defines}
use Rattle.mdinline_labels.specs.Labels.{normalised}
use Rattle.mdinline_labels.proofs.labels.Labels.define_all.Given as goal

abbrev pub invariant-loop-normal : goal.invariant-loop-normal
invariant-loop-normal l = (label : List ℕ) → defines l.self label ≡ (list_any (λ known. bytes_eq (normalised label) known.now.items) l.yielded || defines l.fn.self label)
