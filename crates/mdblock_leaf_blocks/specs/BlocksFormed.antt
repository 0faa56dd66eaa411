-- The shape of the events of leaf blocks.
use Rattle.markdown_tokenizer.specs.Engine.{IsWellFormed}
use Rattle.markdown_tokenizer.specs.Text.{Given, Text, IsText}
use Rattle.mdblock_leaf_blocks.specs.BlocksTold.{flow_told}
use Rattle.mdblock_leaf_blocks.specs.LeafEvents.{flow_events, linked_from}
use Rattle.mdblock_leaf_blocks.specs.ToldMarks.{before_edits}

-- The events of a text's leaf blocks are well formed, whatever gaps it has: balanced, void spans empty, at places of the document, and in order
-- of these; and so they are as they are read, before the edits
pub record BlocksAreFormed : Type 0 where
  pub blocks : (g : Given) (text : Text) → IsText g text → IsWellFormed g (flow_events g.options.constructs g.bytes text.seats)
  pub as_read : (g : Given) (text : Text) → IsText g text → IsWellFormed g (linked_from 0 (before_edits (flow_told g.options.constructs g.bytes text.seats)))
