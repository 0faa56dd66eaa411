-- Leaf blocks (CommonMark 0.31, 4): runs of lines, cut from the front. A block's kind is that of its first line. The definitions have no states.
use Rattle.std.specs.Prelude.{ℕ, zero, suc, ◌&&◌, ◌||◌, nat_le, nat_lt, min, Bool, true, false, cond, List, [], ◌∷◌, take, drop, map, length, None, Some, is_some}
use Rattle.std.specs.List.{position_or_len}
use Rattle.markdown_base.specs.declared.configuration.Constructs.{Constructs}
use Rattle.markdown_base.specs.Virtual.{Seat}
use Rattle.mdconstructs_machines.specs.LineEvents.{line_text}
use Rattle.mdblock_leaf_blocks.specs.HtmlLines.{HtmlKind, raw, comment, instruction, declaration, cdata, block_tag, any_tag, ends, waits_for_blank}
use Rattle.mdblock_leaf_blocks.specs.LineKinds.{Fence, LineKind, blank, indented, heading, fence, html, thematic_break, text, closes, is_blank_line, line_kind, underline_rank}

-- virtual bytes without their places
abbrev pub bytes_of : List Seat → List ℕ
bytes_of seats = map (λ s. s.byte) seats

-- A line: its virtual bytes, with its line ending
abbrev pub Line : Type 0
Line = List Seat

-- the bytes of a line before its line ending
abbrev pub text_of : Line → List ℕ
text_of line = bytes_of (line_text line)

-- A leaf block. A setext heading has its rank, the lines of its text and its underline; fenced code and HTML are closed, or go on to the end
pub data LeafBlock : Type 0 where
  blank_line : Line → LeafBlock
  break_line : Line → LeafBlock
  atx_heading : Line → LeafBlock
  paragraph : List Line → LeafBlock
  setext_heading : (rank : ℕ) → (lines : List Line) → (underline : Line) → LeafBlock
  indented_code : List Line → LeafBlock
  fenced_code : Fence → (is_closed : Bool) → List Line → LeafBlock
  html_block : HtmlKind → (is_closed : Bool) → List Line → LeafBlock

-- "All types of HTML blocks except type 7 may interrupt a paragraph" (4.6)
abbrev pub html_interrupts : HtmlKind → Bool
html_interrupts raw = true
html_interrupts comment = true
html_interrupts instruction = true
html_interrupts declaration = true
html_interrupts cdata = true
html_interrupts block_tag = true
html_interrupts any_tag = false

-- A line of this kind, behind lines of a paragraph, is none of it
abbrev pub interrupts : LineKind → Bool
-- "A sequence of non-blank lines that cannot be interpreted as other kinds of blocks forms a paragraph" (4.8)
interrupts blank = true
interrupts text = false
-- "An indented code block cannot interrupt a paragraph" (4.4)
interrupts indented = false
-- "ATX headings need not be separated from surrounding content by blank lines, and they can interrupt paragraphs" (4.2)
interrupts heading = true
-- "Fenced code blocks can interrupt paragraphs" (4.5)
interrupts (fence f) = true
-- HTML by its kind
interrupts (html kind) = html_interrupts kind
-- "Thematic breaks can interrupt a paragraph" (4.1)
interrupts thematic_break = true

-- how many lines come before the first that passes a test
abbrev pub lines_until : (Line → Bool) → List Line → ℕ
lines_until test lines = position_or_len test lines

-- up to the first whose text passes a test, and with it; and whether there is one
abbrev pub lines_through : (List ℕ → Bool) → List Line → ℕ
lines_through test lines = min (length lines) (suc (lines_until (λ line. test (text_of line)) lines))

abbrev pub has_line : (List ℕ → Bool) → List Line → Bool
has_line test lines = nat_lt (lines_until (λ line. test (text_of line)) lines) (length lines)

-- The constructs that are on
module _ (on : Constructs) where
  abbrev pub is_indented : LineKind → Bool
  is_indented indented = true
  is_indented _ = false

  abbrev pub is_blank : LineKind → Bool
  is_blank blank = true
  is_blank _ = false

  -- further lines of indented code (CommonMark, 4.4): the last of them is indented, and blank lines may be between
  abbrev pub further_code : List Line → ℕ
  further_code [] = 0
  further_code (line ∷ lines) =
      let further = further_code lines in
      let kind = line_kind on (text_of line) in
      cond (is_indented kind) (suc further) (cond (is_blank kind && nat_le 1 further) (suc further) 0)

  -- a line behind lines of a paragraph is none of it: it is their underline, or interrupts them
  abbrev pub ends_text : Line → Bool
  ends_text line = is_some (underline_rank on (text_of line)) || interrupts (line_kind on (text_of line))

  -- a paragraph of so many lines, or a setext heading if an underline comes next; with the number of its lines
  abbrev pub underlined : (lines : List Line) → (behind : List Line) → LeafBlock × ℕ
  underlined lines [] = (paragraph lines, length lines)
  underlined lines (next ∷ behind) =
      elim (underline_rank on (text_of next)) [
        | None ↦ (paragraph lines, length lines)
        | Some rank ↦ (setext_heading rank lines next, suc (length lines))
      ]

  abbrev pub content_at : List Line → LeafBlock × ℕ
  content_at [] = (paragraph [], 0)
  content_at (line ∷ lines) = let n = suc (lines_until ends_text lines) in underlined (take n (line ∷ lines)) (drop n (line ∷ lines))

  -- HTML of the last two kinds ends before a blank line, the others with the line that has their end (CommonMark, 4.6)
  abbrev pub html_block_at : HtmlKind → List Line → LeafBlock × ℕ
  html_block_at kind lines =
      let n = cond (waits_for_blank kind) (lines_until (λ line. is_blank_line (text_of line)) lines) (lines_through (ends kind) lines) in
      (html_block kind (waits_for_blank kind || has_line (ends kind) lines) (take n lines), n)

  -- the leaf block at the front of lines, whose first line is of this kind, and how many lines it has
  abbrev pub block_of_kind : LineKind → Line → List Line → LeafBlock × ℕ
  block_of_kind blank line lines = (blank_line line, 1)
  block_of_kind indented line lines = let n = suc (further_code lines) in (indented_code (take n (line ∷ lines)), n)
  block_of_kind heading line lines = (atx_heading line, 1)
  block_of_kind (fence f) line lines = let n = suc (lines_through (closes on f) lines) in (fenced_code f (has_line (closes on f) lines) (take n (line ∷ lines)), n)
  block_of_kind (html kind) line lines = html_block_at kind (line ∷ lines)
  block_of_kind thematic_break line lines = (break_line line, 1)
  block_of_kind text line lines = content_at (line ∷ lines)

  -- Lines, cut into leaf blocks from the front, so many at most
  abbrev pub blocks_in : (bound : ℕ) → List Line → List LeafBlock
  blocks_in zero lines = []
  blocks_in (suc bound) [] = []
  blocks_in (suc bound) (line ∷ lines) = let (block, n) = block_of_kind (line_kind on (text_of line)) line lines in block ∷ blocks_in bound (drop n (line ∷ lines))

  -- The leaf blocks of lines. Each has a line at least
  abbrev pub leaf_blocks : List Line → List LeafBlock
  leaf_blocks lines = blocks_in (length lines) lines
