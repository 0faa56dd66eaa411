-- The events of leaf blocks are well formed.
use Rattle.mdblock_leaf_blocks.proofs.Prelude.{lines_in, AcrossGap, BlocksAreFormed, flow_told, leaf_blocks, leaf_blocks_marks, before_edits}
use Rattle.mdblock_leaf_blocks.proofs.Marks.Courses.{across-none}
use Rattle.mdblock_leaf_blocks.proofs.Marks.LeafSpans.{flow-told-keeps, leaf-blocks-keep}
use Rattle.mdblock_leaf_blocks.proofs.Marks.MarkForms.{FormsOver, over-kept, text-formed}

pub blocks-are-formed : BlocksAreFormed
blocks-are-formed = record {
  blocks = λ g text is.
      text-formed g text is (leaf_blocks_marks g.bytes (leaf_blocks g.options.constructs (lines_in text.seats)))
      (leaf-blocks-keep g.options.constructs g.bytes (FormsOver AcrossGap g.tab g.bytes) (over-kept AcrossGap across-none g.tab g.bytes) text.seats);
  as_read = λ g text is.
      text-formed g text is (before_edits (flow_told g.options.constructs g.bytes text.seats))
      (flow-told-keeps g.bytes (FormsOver AcrossGap g.tab g.bytes) (over-kept AcrossGap across-none g.tab g.bytes) g.options.constructs text.seats);
}
