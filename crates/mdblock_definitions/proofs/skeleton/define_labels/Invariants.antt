use Rattle.std.proofs.Common.{◌≡◌, ◌≤◌, ◌+◌, ℕ, List, drop, length}
use Rattle.std.specs.Prelude.{◌||◌}
use Rattle.mdinline_labels.specs.Defined.{defines}
use Rattle.mdinline_labels.specs.Definitions.{definitions}
use Rattle.mdblock_definitions.specs.Labelled.{is_one_of}
use Rattle.mdblock_definitions.specs.Skeleton.{labels_in}
use Rattle.mdblock_definitions.proofs.skeleton.define_labels.Given as goal

abbrev pub invariant-loop-definition : goal.invariant-loop-definition
invariant-loop-definition g l = record {
  within : l.next ≤ length l.text + 1;
  turns : l.turns ≤ l.fn.turns + l.definition-index;
  left : drop l.definition-index l.defined ≡ definitions (drop l.next l.text);
  labels : (label : List ℕ) → (defines l.labels label || is_one_of (labels_in (drop l.definition-index l.defined) (drop l.next l.text)) label) ≡ (defines l.fn.labels label || is_one_of (labels_in l.defined l.text) label);
}
