-- Which lines of a document are text whatever they look like, and the blocks of a document by that. The definitions have no states.
use Rattle.std.specs.Prelude.{ℕ, ◌==◌, ◌&&◌, Bool, false, cond, List, [], ◌∷◌, ◌++◌, map, Some, is_some}
use Rattle.std.specs.List.{flat_map, list_any}
use Rattle.markdown_base.specs.declared.configuration.Constructs.{Constructs}
use Rattle.markdown_base.specs.declared.event.Content.TheVariants.{Content}
use Rattle.markdown_base.specs.declared.event.Event.{Event}
use Rattle.markdown_base.specs.Virtual.{Seat, virtual}
use Rattle.markdown_tokenizer.specs.Text.{Given}
use Rattle.markdown_children.specs.Chains.{fitting_starts}
use Rattle.markdown_children.specs.Children.{with_children}
use Rattle.markdown_children.specs.Reads.{text_from}
use Rattle.mdblock_leaf_blocks.specs.LeafBlocks.{Line}
use Rattle.mdblock_leaf_blocks.specs.LineKinds.{underline_rank}
use Rattle.mdblock_containers.specs.Rows.{Row, rest_of}
use Rattle.mdblock_table_marks.specs.Cells.{with_cells}
use Rattle.mdblock_definitions.specs.Sections.{Section, defined, lines, table}
use Rattle.mdblock_text_lines.specs.DocumentSections.{document_skeleton, sections_in_seats}
use Rattle.mdblock_text_lines.specs.TextLines.{flow_events}

module _ (on : Constructs) where
  -- "The setext heading underline cannot be a lazy continuation line in a list item or block quote" (CommonMark, 4.3): what would be one is text. The
  -- number of such a line
  abbrev pub lazy_underline : Row → List ℕ
  lazy_underline row = cond (row.is_lazy && is_some (underline_rank on (rest_of row))) (row.number ∷ []) []

  -- The numbers of the lines of a section that are text whatever they look like: the first one directly behind definitions, and lazy underlines
  abbrev pub texts_of_section : Section → List ℕ
  texts_of_section s = elim s.inside [
    | lines is_behind ↦ cond is_behind (s.part.first.number ∷ []) (lazy_underline s.part.first) ++ flat_map lazy_underline s.part.more
    | defined ds ↦ []
    | table ↦ []
  ]

  -- those of a document, by its virtual bytes
  abbrev pub text_lines : List Seat → List ℕ
  text_lines seats = flat_map texts_of_section (sections_in_seats on seats)

-- a line, or what a container's prefix leaves of it, has one of these numbers
abbrev pub has_number : List ℕ → Line → Bool
has_number numbers [] = false
has_number numbers (s ∷ ss) = list_any (λ n. n == s.point.line) numbers

-- The leaf blocks of a document, in its containers: in place of each chain of its skeleton stand those of the chain's text (CommonMark, 4 and 5)
abbrev pub document_leaf_blocks : Given → List Event
document_leaf_blocks g =
    let on = g.options.constructs in
    let is_text = has_number (text_lines on (virtual g.tab g.bytes)) in
    with_children (Some Content) (document_skeleton g) (map (λ c. flow_events on is_text g.bytes (text_from g (document_skeleton g) c).seats) (fitting_starts (Some Content) (document_skeleton g)))

-- The blocks of a document: the text of each cell of its tables is a chain of its own (GFM 0.29, 4.10)
abbrev pub document_blocks : Given → List Event
document_blocks g = with_cells g.options.constructs (document_leaf_blocks g)
