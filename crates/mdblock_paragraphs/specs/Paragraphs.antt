-- Lines of a document that are one paragraph, by what is known of them with their containers.
use Rattle.std.specs.Prelude.{◌≡◌, ℕ, ◌&&◌, not, Bool, true, false, List, [], ◌∷◌, map}
use Rattle.std.specs.List.{AllByRecursion, list_all}
use Rattle.markdown_base.specs.declared.configuration.Constructs.{Constructs}
use Rattle.markdown_base.specs.Virtual.{virtual}
use Rattle.mdconstructs_machines.specs.LineEvents.{all_of}
use Rattle.mdblock_leaf_blocks.specs.LeafBlocks.{Line, ends_text, leaf_blocks, paragraph, text_of}
use Rattle.mdblock_leaf_blocks.specs.LeafEvents.{flow_events, leaf_block_marks, linked_from}
use Rattle.mdblock_leaf_blocks.specs.LineKinds.{line_kind, text}
use Rattle.mdblock_containers.specs.Letters.{lettered_seat, with_letters}
use Rattle.mdblock_containers.specs.Rows.{is_paragraph}
use Rattle.mdblock_containers.specs.Skeleton.{Part, is_held, pieces_of}
use Rattle.mdblock_definitions.specs.Sections.{Section, defined, lines, table}
use Rattle.mdblock_definitions.specs.Skeleton.{all_rows, letters, sections_in_seats}

-- A line of text, and lines that neither underline it nor interrupt a paragraph, are one paragraph (CommonMark, 4.8)
abbrev pub LinesOfTextAreAParagraph : Type 0
LinesOfTextAreAParagraph = (on : Constructs) (line : Line) (more : List Line) → line_kind on (text_of line) ≡ text → AllByRecursion (λ (next : Line). ends_text on next ≡ false) more
    → leaf_blocks on (line ∷ more) ≡ paragraph (line ∷ more) ∷ []

-- A paragraph is open behind each line of a section, and definitions do not come directly before it
abbrev pub is_one_paragraph : Section → Bool
is_one_paragraph s = elim s.inside [
  | lines is_behind ↦ not is_behind && list_all (λ row. is_paragraph row.leaf) (all_rows s.part)
  | defined ds ↦ false
  | table ↦ false
]

-- The lines of a part as leaf blocks are read of them: what is behind their prefixes, with letters at these indices
abbrev pub lines_shown : (bytes at : List ℕ) → Part → List Line
lines_shown bytes at part = map (λ piece. map (lettered_seat at) piece.seats) (pieces_of bytes (is_held part) part.first part.more)

-- The lines of each such section are one paragraph
abbrev pub OpenLinesAreAParagraph : Type 0
OpenLinesAreAParagraph = (on : Constructs) (t : ℕ) (bytes : List ℕ) → let seats = virtual t bytes in
    AllByRecursion (λ (s : Section). is_one_paragraph s ≡ true → let ls = lines_shown bytes (letters on seats) s.part in leaf_blocks on ls ≡ paragraph ls ∷ []) (sections_in_seats on seats)

-- and so are their events: a paragraph, and in it a chunk of text for each line
abbrev pub OpenLinesAreReadAsAParagraph : Type 0
OpenLinesAreReadAsAParagraph = (on : Constructs) (t : ℕ) (bytes : List ℕ) → let seats = virtual t bytes in
    let shown = with_letters (letters on seats) bytes in
    AllByRecursion (λ (s : Section). is_one_paragraph s ≡ true → let ls = lines_shown bytes (letters on seats) s.part in flow_events on shown (all_of ls) ≡ linked_from 0 (leaf_block_marks shown (paragraph ls))) (sections_in_seats on seats)
