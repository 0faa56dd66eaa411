use Rattle.std.proofs.Common.{◌-◌, ◌≡◌, List, length, take, ℕ}
use Rattle.std.specs.Prelude.{All}
use Rattle.markdown_base.specs.Virtual.{virtual}
use Rattle.mdblock_definitions.specs.Labelled.{is_one_of}
use Rattle.mdblock_definitions.specs.Skeleton.{written_labels}
use Rattle.mdinline_labels.specs.Defined.{defines}
use Rattle.mddocument_sinks.specs.Seams.{IsSeam}
use Rattle.mddocument_sinks.proofs.pieces.plan_of.Given as goal

abbrev pub invariant-loop-start : goal.invariant-loop-start
invariant-loop-start l = record {
  seam : IsSeam l.options l.bytes l.start;
  labels : (label : List ℕ) → defines l.labels label ≡ is_one_of (written_labels l.options.constructs (virtual l.options.tab_size (take l.start l.bytes))) label;
  seams : All (IsSeam l.options l.bytes) l.seams.items;
}

abbrev pub decreases-loop-start : goal.decreases-loop-start
decreases-loop-start l = length l.bytes - l.start
