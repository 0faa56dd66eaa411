-- The parts, sections and labels of a document, and its blocks, are those that its code reads.
use Rattle.std.specs.Prelude.{◌≡◌, List}
use Rattle.markdown_base.specs.declared.configuration.Constructs.{Constructs}
use Rattle.markdown_base.specs.Virtual.{Seat}
use Rattle.markdown_tokenizer.specs.Text.{Given, IsDocument}
use Rattle.mdblock_leaf_blocks.specs.LeafBlocks.{Line}
use Rattle.mdblock_containers.specs.Skeleton as by_counts
use Rattle.mdblock_definitions.specs.Blocks as lettered
use Rattle.mdblock_definitions.specs.Rows.{rows}
use Rattle.mdblock_definitions.specs.Skeleton as by_counts_defined
use Rattle.mdblock_definitions.specs.BlankLines.{parts}
use Rattle.mdblock_text_lines.specs.DocumentBlocks.{document_leaf_blocks}
use Rattle.mdblock_text_lines.specs.DocumentSections.{sections_in_seats}

-- The parts of a document are those that are found by how many containers go on
abbrev pub PartsAreThose : Type 0
PartsAreThose = (on : Constructs) (lines : List Line) → parts (rows on lines) ≡ by_counts.parts (rows on lines)

-- and so are its sections
abbrev pub SectionsAreThose : Type 0
SectionsAreThose = (on : Constructs) (seats : List Seat) → sections_in_seats on seats ≡ by_counts_defined.sections_in_seats on seats

-- The leaf blocks of a document are those that are read of it with a letter in each line that is text
abbrev pub BlocksAreThose : Type 0
BlocksAreThose = (g : Given) → IsDocument g → document_leaf_blocks g ≡ lettered.document_blocks g
