-- The sections of a document are those that are found by how many containers go on, as its parts are.
use Rattle.std.proofs.Common.{◌≡◌, List, ap}
use Rattle.std.specs.Prelude.{None}
use Rattle.std.specs.List.{flat_map}
use Rattle.markdown_base.specs.declared.configuration.Constructs.{Constructs}
use Rattle.markdown_base.specs.Virtual.{Seat, virtual}
use Rattle.markdown_tokenizer.specs.Text.{Given}
use Rattle.mdconstructs_machines.specs.LineEvents.{lines_in}
use Rattle.mdblock_containers.specs.Skeleton.{chained_from}
use Rattle.mdblock_definitions.specs.Blocks as now_blocks
use Rattle.mdblock_definitions.specs.Sections.{Section, cut}
use Rattle.mdblock_definitions.specs.Skeleton.{labels_of_section, sections_marks}
use Rattle.mdblock_definitions.specs.Skeleton as now_skeleton
use Rattle.mdblock_text_lines.proofs.BlankLines.{parts-are-those}
use Rattle.mdblock_text_lines.specs.Asked.{SectionsAreThose}
use Rattle.mdblock_text_lines.specs.DocumentSections.{document_skeleton, written_labels}

-- The sections of a document
pub sections-are-those : SectionsAreThose
sections-are-those on seats = ap (flat_map (cut on)) (parts-are-those on (lines_in seats))

-- and so are its labels and its skeleton
pub labels-are-those : (on : Constructs) (seats : List Seat) → written_labels on seats ≡ now_skeleton.written_labels on seats
labels-are-those on seats = ap (flat_map labels_of_section) (sections-are-those on seats)

pub skeleton-is-that : (g : Given) → document_skeleton g ≡ now_blocks.document_skeleton g
skeleton-is-that g = ap (λ (ss : List Section). chained_from 0 None (sections_marks g.bytes ss)) (sections-are-those g.options.constructs (virtual g.tab g.bytes))
