-- The lines of leaf blocks.
use Rattle.std.specs.Prelude.{◌≡◌, List, [], ◌∷◌, ◌++◌}
use Rattle.std.specs.List.{flat_map}
use Rattle.markdown_base.specs.declared.configuration.Constructs.{Constructs}
use Rattle.mdblock_leaf_blocks.specs.LeafBlocks.{Line, LeafBlock, blank_line, break_line, atx_heading, paragraph, setext_heading, indented_code, fenced_code, html_block, leaf_blocks}

-- the lines of a block
abbrev pub block_lines : LeafBlock → List Line
block_lines (blank_line line) = line ∷ []
block_lines (break_line line) = line ∷ []
block_lines (atx_heading line) = line ∷ []
block_lines (paragraph lines) = lines
block_lines (setext_heading rank lines below) = lines ++ below ∷ []
block_lines (indented_code lines) = lines
block_lines (fenced_code f is_closed lines) = lines
block_lines (html_block kind is_closed lines) = lines

-- Each line is in exactly one leaf block, in order: the lines of the blocks, one behind the other, are the lines
abbrev pub LinesAreInBlocks : Type 0
LinesAreInBlocks = (on : Constructs) (lines : List Line) → flat_map block_lines (leaf_blocks on lines) ≡ lines
