-- Leaf blocks as they are read: three events of a setext heading have other names then, and edits give them theirs.
use Rattle.std.specs.Prelude.{◌≡◌, ℕ, List, [], ◌∷◌, ◌++◌, map}
use Rattle.std.specs.List.{flat_map}
use Rattle.markdown_base.specs.declared.configuration.Constructs.{Constructs}
use Rattle.markdown_base.specs.Virtual.{Seat}
use Rattle.markdown_edits.specs.Edited.{edited}
use Rattle.mdconstructs_machines.specs.LineEvents.{lines_in}
use Rattle.mdblock_leaf_blocks.specs.BlocksRead.{heading_told}
use Rattle.mdblock_leaf_blocks.specs.LeafBlocks.{LeafBlock, setext_heading, leaf_blocks}
use Rattle.mdblock_leaf_blocks.specs.LeafEvents.{flow_events, last_end, leaf_block_marks, leaf_blocks_marks, linked_from}
use Rattle.mdblock_leaf_blocks.specs.ToldChunks.{ChunksStand}
use Rattle.mdblock_leaf_blocks.specs.ToldMarks.{ToldMark, as_it_is, before_edits, behind_edits, told_edits}

module _ (bytes : List ℕ) where
  abbrev pub block_told : LeafBlock → List ToldMark
  block_told (setext_heading rank lines underline) = heading_told bytes lines underline ++ map as_it_is (last_end bytes (underline ∷ []))
  block_told block = map as_it_is (leaf_block_marks bytes block)

  abbrev pub blocks_told : List LeafBlock → List ToldMark
  blocks_told blocks = flat_map block_told blocks

-- the leaf blocks of a text as they are read
abbrev pub flow_told : Constructs → (bytes : List ℕ) → List Seat → List ToldMark
flow_told on bytes seats = blocks_told bytes (leaf_blocks on (lines_in seats))

-- The edits of these make what leaf blocks are: their marks behind edits are the blocks' marks, and the edited events are the blocks' events
pub record EditsMakeBlocks : Type 0 where
  pub stand : (on : Constructs) (bytes : List ℕ) (seats : List Seat) → ChunksStand 0 (flow_told on bytes seats)
  pub marks : (on : Constructs) (bytes : List ℕ) (seats : List Seat) → behind_edits (flow_told on bytes seats) ≡ leaf_blocks_marks bytes (leaf_blocks on (lines_in seats))
  pub events : (on : Constructs) (bytes : List ℕ) (seats : List Seat)
      → edited (told_edits 0 (flow_told on bytes seats)) (linked_from 0 (before_edits (flow_told on bytes seats))) ≡ flow_events on bytes seats
