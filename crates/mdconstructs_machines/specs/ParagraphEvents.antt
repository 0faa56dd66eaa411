-- The events of documents that are read as paragraphs. The definition says what is in the text, and has no states.
use Rattle.std.specs.Prelude.{ℕ, zero, suc, ◌==◌, ◌&&◌, Bool, false, List, [], ◌∷◌, ◌++◌, Option, Some, None, cond, map, take, drop, position}
use Rattle.markdown_base.specs.declared.event.Content.TheVariants.{Text}
use Rattle.markdown_base.specs.declared.event.Event.{Event}
use Rattle.markdown_base.specs.declared.event.Kind.TheVariants.{Enter, Exit}
use Rattle.markdown_base.specs.declared.event.Name.{Name}
use Rattle.markdown_base.specs.declared.event.Name.TheVariants.{Paragraph, Data, BlankLineEnding, BlockQuoteMarker}
use Rattle.markdown_base.specs.Virtual.{Seat, end_after}
use Rattle.mdconstructs_machines.specs.Spans.{event}
use Rattle.mdconstructs_machines.specs.LineEvents.{is_line_ending, lines_in, all_of}

-- Blank line: a line that is only its line ending. If a line begins with one, nothing more is in it.
abbrev pub is_blank : List Seat → Bool
is_blank [] = false
is_blank (s ∷ ss) = is_line_ending s

-- A block: a blank line, or a paragraph, which has one line or more
pub data Block : Type 0 where
  blank : List Seat → Block
  paragraph : List (List Seat) → Block

-- blocks with a line before them that is not blank: a paragraph that comes first goes on from it
abbrev pub continued : List Seat → List Block → List Block
continued line (paragraph lines ∷ blocks) = paragraph (line ∷ lines) ∷ blocks
continued line blocks = paragraph (line ∷ []) ∷ blocks

-- The blocks of lines. A paragraph is a run of lines that are not blank, as long as it can be.
abbrev pub blocks_of : List (List Seat) → List Block
blocks_of [] = []
blocks_of (line ∷ lines) = cond (is_blank line) (blank line ∷ blocks_of lines) (continued line (blocks_of lines))

-- a line that begins with a quote mark, `>`
abbrev pub is_quoted : List Seat → Bool
is_quoted [] = false
is_quoted (s ∷ ss) = s.byte == 62

-- the quote mark that a line begins with, if it does
abbrev pub mark_of : List Seat → List Seat
mark_of line = cond (is_quoted line) (take 1 line) []

-- the chunk of a line: all that follows the quote mark, the line ending too
abbrev pub chunk_of : List Seat → List Seat
chunk_of line = cond (is_quoted line) (drop 1 line) line

-- Which chunk it is: that of which block of the document, and of which of its lines
abbrev pub Chunk : Type 0
Chunk = ℕ × ℕ

-- An event, and the chunk that it begins, if it begins one
abbrev pub Marked : Type 0
Marked = Event × Option Chunk

module _ (bytes : List ℕ) where
  -- A span over virtual bytes, whose first event begins a chunk or not, with these events in it
  abbrev pub marked_span : Option Chunk → Name → List Seat → List Marked → List Marked
  marked_span chunk name [] inside = inside
  marked_span chunk name (s ∷ ss) inside = (event bytes Enter name s.point, chunk) ∷ (inside ++ (event bytes Exit name (end_after s.end ss), None) ∷ [])

  -- a line of a paragraph: its quote mark, and data over its chunk
  abbrev pub line_marks : Chunk → List Seat → List Marked
  line_marks chunk line = marked_span None BlockQuoteMarker (mark_of line) [] ++ marked_span (Some chunk) Data (chunk_of line) []

  -- the lines of a block, of which the first has this number
  abbrev pub lines_marks : (block line : ℕ) → List (List Seat) → List Marked
  lines_marks block n [] = []
  lines_marks block n (line ∷ lines) = line_marks (block, n) line ++ lines_marks block (suc n) lines

  -- a block with its number: a blank line, or a paragraph over all of its lines
  abbrev pub block_marks : (block : ℕ) → Block → List Marked
  block_marks b (blank line) = marked_span None BlankLineEnding line []
  block_marks b (paragraph lines) = marked_span None Paragraph (all_of lines) (lines_marks b 0 lines)

  -- blocks, of which the first has this number
  abbrev pub blocks_marks : (block : ℕ) → List Block → List Marked
  blocks_marks b [] = []
  blocks_marks b (block ∷ blocks) = block_marks b block ++ blocks_marks (suc b) blocks

-- the event begins this chunk
abbrev pub begins : Chunk → Marked → Bool
begins chunk (e, None) = false
begins (b, n) (e, Some (c, m)) = (b == c) && (n == m)

module _ (events : List Marked) where
  -- at which index a chunk begins, and the chunk of the line before it in its paragraph
  abbrev pub chunk_at : Chunk → Option ℕ
  chunk_at chunk = position (begins chunk) events

  abbrev pub chunk_before : Chunk → Option ℕ
  chunk_before (b, zero) = None
  chunk_before (b, suc n) = chunk_at (b, n)

  -- an event that begins a chunk is linked, as text, to the chunks of the lines before and after in its paragraph
  abbrev pub as_linked : Marked → Event
  as_linked (e, None) = e
  as_linked (e, Some (b, n)) = record e { link = Some (record { previous = chunk_before (b, n); next = chunk_at (b, suc n); content = Text }) }

-- marked events, with their chunks linked
abbrev pub with_links : List Marked → List Event
with_links events = map (as_linked events) events

-- `Paragraphs` and `Text`: blank lines, and paragraphs whose chunks are linked each to the next
abbrev pub paragraph_events : (bytes : List ℕ) → List Seat → List Event
paragraph_events bytes seats = with_links (blocks_marks bytes 0 (blocks_of (lines_in seats)))
