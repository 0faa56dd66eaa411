-- The sections of a document, by the parts in which its blank lines stand; its skeleton, and the labels that it defines. The definitions have no states.
use Rattle.std.specs.Prelude.{ℕ, List, None}
use Rattle.std.specs.List.{flat_map}
use Rattle.markdown_base.specs.declared.configuration.Constructs.{Constructs}
use Rattle.markdown_base.specs.declared.event.Event.{Event}
use Rattle.markdown_base.specs.Virtual.{Seat, virtual}
use Rattle.markdown_tokenizer.specs.Text.{Given}
use Rattle.mdconstructs_machines.specs.LineEvents.{lines_in}
use Rattle.mdblock_containers.specs.Skeleton.{chained_from}
use Rattle.mdblock_definitions.specs.BlankLines.{parts}
use Rattle.mdblock_definitions.specs.Rows.{rows}
use Rattle.mdblock_definitions.specs.Sections.{Section, cut}
use Rattle.mdblock_definitions.specs.Skeleton.{labels_of_section, sections_marks}

module _ (on : Constructs) where
  -- The sections of a document: its parts, cut before and behind the definitions with which a paragraph begins (CommonMark 0.31, 4.7)
  abbrev pub sections_in_seats : List Seat → List Section
  sections_in_seats seats = flat_map (cut on) (parts (rows on (lines_in seats)))

  -- the labels of a document's definitions, as they are written
  abbrev pub written_labels : List Seat → List (List ℕ)
  written_labels seats = flat_map labels_of_section (sections_in_seats seats)

-- The skeleton of a document: the events of its containers and definitions, and a chain of chunks for each stretch of other lines
abbrev pub document_skeleton : Given → List Event
document_skeleton g = chained_from 0 None (sections_marks g.bytes (sections_in_seats g.options.constructs (virtual g.tab g.bytes)))
