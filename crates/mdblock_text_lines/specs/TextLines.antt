-- Leaf blocks of lines of which some are text whatever they look like (CommonMark 0.31, 4), and their events. Which ones is an argument. All else is as
-- of lines alone.
use Rattle.std.specs.Prelude.{ℕ, zero, suc, ◌&&◌, ◌||◌, nat_le, Bool, cond, List, [], ◌∷◌, drop, length, take, Option, None, Some, is_some}
use Rattle.markdown_base.specs.declared.configuration.Constructs.{Constructs}
use Rattle.markdown_base.specs.declared.event.Event.{Event}
use Rattle.markdown_base.specs.Virtual.{Seat}
use Rattle.mdconstructs_machines.specs.LineEvents.{lines_in}
use Rattle.mdblock_leaf_blocks.specs.LeafBlocks.{Line, LeafBlock, blank_line, break_line, atx_heading, paragraph, setext_heading, indented_code, fenced_code, has_line, html_block_at, interrupts, is_blank, is_indented, lines_through, lines_until, text_of}
use Rattle.mdblock_leaf_blocks.specs.LeafEvents.{leaf_blocks_marks, linked_from}
use Rattle.mdblock_leaf_blocks.specs.LineKinds.{LineKind, blank, indented, heading, fence, html, thematic_break, text, closes, line_kind, underline_rank}

-- The constructs that are on, and which lines are text whatever they look like
module _ (on : Constructs) (is_text : Line → Bool) where
  -- what a line is
  abbrev pub kind_at : Line → LineKind
  kind_at line = cond (is_text line) text (line_kind on (text_of line))

  -- the rank of the heading that it would make, as an underline
  abbrev pub rank_at : Line → Option ℕ
  rank_at line = cond (is_text line) None (underline_rank on (text_of line))

  -- further lines of indented code (CommonMark, 4.4): the last of them is indented, and blank lines may be between
  abbrev pub further_code : List Line → ℕ
  further_code [] = 0
  further_code (line ∷ lines) =
      let further = further_code lines in
      let kind = kind_at line in
      cond (is_indented on kind) (suc further) (cond (is_blank on kind && nat_le 1 further) (suc further) 0)

  -- a line behind lines of a paragraph is none of it: it is their underline, or interrupts them
  abbrev pub ends_text : Line → Bool
  ends_text line = is_some (rank_at line) || interrupts (kind_at line)

  -- a paragraph of so many lines, or a setext heading if an underline comes next; with the number of its lines
  abbrev pub underlined : (lines : List Line) → (behind : List Line) → LeafBlock × ℕ
  underlined lines [] = (paragraph lines, length lines)
  underlined lines (next ∷ behind) =
      elim (rank_at next) [
        | None ↦ (paragraph lines, length lines)
        | Some rank ↦ (setext_heading rank lines next, suc (length lines))
      ]

  abbrev pub content_at : List Line → LeafBlock × ℕ
  content_at [] = (paragraph [], 0)
  content_at (line ∷ lines) = let n = suc (lines_until ends_text lines) in underlined (take n (line ∷ lines)) (drop n (line ∷ lines))

  -- the leaf block at the front of lines, whose first line is of this kind, and how many lines it has
  abbrev pub block_of_kind : LineKind → Line → List Line → LeafBlock × ℕ
  block_of_kind blank line lines = (blank_line line, 1)
  block_of_kind indented line lines = let n = suc (further_code lines) in (indented_code (take n (line ∷ lines)), n)
  block_of_kind heading line lines = (atx_heading line, 1)
  block_of_kind (fence f) line lines = let n = suc (lines_through (closes on f) lines) in (fenced_code f (has_line (closes on f) lines) (take n (line ∷ lines)), n)
  block_of_kind (html kind) line lines = html_block_at on kind (line ∷ lines)
  block_of_kind thematic_break line lines = (break_line line, 1)
  block_of_kind text line lines = content_at (line ∷ lines)

  -- Lines, cut into leaf blocks from the front, so many at most
  abbrev pub blocks_in : (bound : ℕ) → List Line → List LeafBlock
  blocks_in zero lines = []
  blocks_in (suc bound) [] = []
  blocks_in (suc bound) (line ∷ lines) = let (block, n) = block_of_kind (kind_at line) line lines in block ∷ blocks_in bound (drop n (line ∷ lines))

  -- The leaf blocks of lines. Each has a line at least
  abbrev pub leaf_blocks : List Line → List LeafBlock
  leaf_blocks lines = blocks_in (length lines) lines

  -- and their events, by the virtual bytes of the lines
  abbrev pub flow_events : (bytes : List ℕ) → List Seat → List Event
  flow_events bytes seats = linked_from 0 (leaf_blocks_marks bytes (leaf_blocks (lines_in seats)))
