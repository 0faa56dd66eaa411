-- Where the events of a leaf block stand.
use Rattle.std.specs.Prelude.{◌≡◌, ◌⊎◌, ℕ, All, Contains, List}
use Rattle.markdown_base.specs.declared.configuration.Constructs.{Constructs}
use Rattle.markdown_base.specs.declared.event.Event.{Event}
use Rattle.markdown_base.specs.Places.{shown}
use Rattle.markdown_base.specs.Virtual.{Seat}
use Rattle.mdconstructs_machines.specs.LineEvents.{all_of}
use Rattle.mdblock_leaf_blocks.specs.BlockLines.{block_lines}
use Rattle.mdblock_leaf_blocks.specs.LeafBlocks.{LeafBlock}
use Rattle.mdblock_leaf_blocks.specs.LeafEvents.{flow_events, leaf_block_marks}

-- An event stands where one of these virtual bytes begins, or where one ends
abbrev pub StandsAtOne : (bytes : List ℕ) → List Seat → Event → Type 0
StandsAtOne bytes seats e = (s : Seat) × Contains seats s × ((e.point ≡ shown bytes s.point) ⊎ (e.point ≡ shown bytes s.end))

-- Each event of a leaf block stands in the lines of the block, with their line endings
abbrev pub BlocksStandInLines : Type 0
BlocksStandInLines = (bytes : List ℕ) (block : LeafBlock) → All (λ m. StandsAtOne bytes (all_of (block_lines block)) m.0) (leaf_block_marks bytes block)

-- So each event of a text's leaf blocks stands in the text
abbrev pub LeafBlocksStandInTexts : Type 0
LeafBlocksStandInTexts = (on : Constructs) (bytes : List ℕ) (seats : List Seat) → All (StandsAtOne bytes seats) (flow_events on bytes seats)
