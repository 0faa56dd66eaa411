-- What is promised of what stands in what.
use Rattle.std.specs.Prelude.{◌≡◌, ℕ, [], true, List}
use Rattle.markdown_base.specs.declared.configuration.Constructs.{Constructs}
use Rattle.markdown_base.specs.declared.event.Name.{Name}
use Rattle.markdown_base.specs.Virtual.{Seat}
use Rattle.markdown_tokenizer.specs.Text.{Given, IsDocument}
use Rattle.mdblock_leaf_blocks.specs.LeafEvents.{flow_events}
use Rattle.mdblock_definitions.specs.Blocks.{document_skeleton}
use Rattle.mdblock_text_lines.specs.DocumentBlocks.{document_blocks}
use Rattle.mddocument.specs.DocumentEvents.{document_events}
use Rattle.mddocument_rules.specs.Standing.{all_stand, holds_blocks, is_outside_links, may_stand}

-- Leaf blocks stand where blocks may stand
abbrev pub LeafBlocksStand : Type 0
LeafBlocksStand = (on : Constructs) (bytes : List ℕ) (seats : List Seat) (around : List Name) → holds_blocks around ≡ true → all_stand may_stand around (flow_events on bytes seats) ≡ true

-- and so do block quotes, lists and definitions; in a list stand its items
abbrev pub SkeletonsStand : Type 0
SkeletonsStand = (g : Given) → all_stand may_stand [] (document_skeleton g) ≡ true

-- So it is of all blocks of each document
abbrev pub BlocksStand : Type 0
BlocksStand = (g : Given) → IsDocument g → all_stand may_stand [] (document_blocks g) ≡ true

-- And so it is of each document: items stand in lists, blocks in the document, a quote, an item or a footnote definition, and inline text in texts
abbrev pub SpansStand : Type 0
SpansStand = (g : Given) → IsDocument g → all_stand may_stand [] (document_events g) ≡ true

-- "Links may not contain other links, at any level of nesting" (6.3): so it is of each document
abbrev pub NoLinkInALink : Type 0
NoLinkInALink = (g : Given) → IsDocument g → all_stand is_outside_links [] (document_events g) ≡ true
