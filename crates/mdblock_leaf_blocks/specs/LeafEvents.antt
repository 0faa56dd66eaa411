-- The events of leaf blocks, from the virtual bytes of their lines. The definitions have no states.
use Rattle.std.specs.Prelude.{ℕ, zero, suc, ◌+◌, ◌-◌, not, min, Bool, true, false, cond, List, [], ◌∷◌, ◌++◌, take, drop, length, Option, Some, None}
use Rattle.std.specs.List.{flat_map, prefix_len}
use Rattle.markdown_base.specs.declared.configuration.Constructs.{Constructs}
use Rattle.markdown_base.specs.declared.event.Content.{Content}
use Rattle.markdown_base.specs.declared.event.Content.TheVariants as content
use Rattle.markdown_base.specs.declared.event.Event.{Event}
use Rattle.markdown_base.specs.declared.event.Kind.TheVariants.{Enter, Exit}
use Rattle.markdown_base.specs.declared.event.Name.{Name}
use Rattle.markdown_base.specs.declared.event.Name.TheVariants as name
use Rattle.markdown_base.specs.Virtual.{Seat, end_after}
use Rattle.mdconstructs_tables.specs.Breaks.{is_white}
use Rattle.mdconstructs_machines.specs.LineEvents.{all_of, ending_of, line_text, lines_in}
use Rattle.mdconstructs_machines.specs.Spans.{event}
use Rattle.mdblock_leaf_blocks.specs.LeafBlocks.{Line, LeafBlock, blank_line, break_line, atx_heading, paragraph, setext_heading, indented_code, fenced_code, html_block, bytes_of, leaf_blocks}
use Rattle.mdblock_leaf_blocks.specs.LineKinds.{Fence, heading_text, indent, run, unindented}

-- A chunk: what it is read as, and whether chunks of the same block come before and behind it
pub record Chunk : Type 0 where
  pub content : Content
  pub has_previous : Bool
  pub has_next : Bool

-- An event, and the chunk that it begins, if it begins one
abbrev pub Mark : Type 0
Mark = Event × Option Chunk

-- a chunk that stands alone
abbrev pub alone : Content → Option Chunk
alone c = Some (record { content = c; has_previous = false; has_next = false })

-- the virtual bytes of lines, without the last line ending
abbrev pub body : List Line → List Seat
body [] = []
body (line ∷ []) = line_text line
body (line ∷ lines) = line ++ body lines

module _ (bytes : List ℕ) where
  -- a span over virtual bytes, with these marks in it, and the chunk that it is, if it is one
  abbrev pub chunk_span : Option Chunk → Name → List Seat → List Mark → List Mark
  chunk_span chunk n [] inside = inside
  chunk_span chunk n (s ∷ ss) inside = (event bytes Enter n s.point, chunk) ∷ (inside ++ (event bytes Exit n (end_after s.end ss), None) ∷ [])

  abbrev pub span_marks : Name → List Seat → List Mark → List Mark
  span_marks n seats inside = chunk_span None n seats inside

  abbrev pub leaf_marks : Name → List Seat → List Mark
  leaf_marks n seats = chunk_span None n seats []

  abbrev pub white : List Seat → List Mark
  white seats = leaf_marks name.SpaceOrTab seats

  -- the line ending of a line
  abbrev pub line_end : Line → List Mark
  line_end line = leaf_marks name.LineEnding (ending_of line)

  -- white space, a run of so many bytes, and white space
  abbrev pub sequence_marks : Name → (size : ℕ) → List Seat → List Mark
  sequence_marks n size seats =
      let columns = indent (bytes_of seats) in
      white (take columns seats) ++ (leaf_marks n (take size (drop columns seats)) ++ white (drop (columns + size) seats))

  -- Thematic break: its white space and the marks between it, each as long as it can be, so many at most
  abbrev pub break_marks : (bound : ℕ) → List Seat → List Mark
  break_marks zero seats = []
  break_marks (suc bound) seats =
      let columns = indent (bytes_of seats) in
      let end = columns + prefix_len (λ b. not (is_white b)) (drop columns (bytes_of seats)) in
      white (take columns seats) ++ (leaf_marks name.ThematicBreakSequence (take (end - columns) (drop columns seats)) ++ break_marks bound (drop end seats))

  -- ATX heading: the opening sequence, what its text is read as, and the closing sequence
  abbrev pub heading_around : (List Seat → List Mark) → List Seat → List Mark
  heading_around read seats =
      let t = bytes_of seats in
      let signs = indent t + run 35 (unindented t) in
      let start = signs + indent (drop signs t) in
      let end = start + length (heading_text (drop start t)) in
      let text = take (end - start) (drop start seats) in
      sequence_marks name.HeadingAtxSequence (run 35 (unindented t)) (take start seats)
      ++ (span_marks name.HeadingAtxText text (read text)
      ++ sequence_marks name.HeadingAtxSequence (run 35 (unindented (drop end t))) (drop end seats))

  -- a text, or a string, that is a chunk of its own
  abbrev pub text_chunk : List Seat → List Mark
  text_chunk seats = chunk_span (alone content.Text) name.Data seats []

  abbrev pub string_chunk : List Seat → List Mark
  string_chunk seats = chunk_span (alone content.String) name.Data seats []

  -- its text is a chunk
  abbrev pub heading_marks : List Seat → List Mark
  heading_marks seats = heading_around text_chunk seats

  -- Opening fence: its sequence, and what the first word behind it and the rest are read as
  abbrev pub fence_around : (List Seat → List Mark) → (size : ℕ) → List Seat → List Mark
  fence_around read size seats =
      let t = bytes_of seats in
      let signs = indent t + size in
      let start = signs + indent (drop signs t) in
      let word = start + prefix_len (λ c. not (is_white c)) (drop start t) in
      let rest = word + indent (drop word t) in
      let info = take (word - start) (drop start seats) in
      let meta = drop rest seats in
      span_marks name.CodeFencedFence seats
      (sequence_marks name.CodeFencedFenceSequence size (take start seats)
      ++ (span_marks name.CodeFencedFenceInfo info (read info)
      ++ (white (take (rest - word) (drop word seats)) ++ span_marks name.CodeFencedFenceMeta meta (read meta))))

  -- both are chunks
  abbrev pub fence_marks : (size : ℕ) → List Seat → List Mark
  fence_marks size seats = fence_around string_chunk size seats

  -- a line of code: white space of so many columns at most, and the rest
  abbrev pub code_marks : (most : ℕ) → List Seat → List Mark
  code_marks most seats = let n = min most (indent (bytes_of seats)) in white (take n seats) ++ leaf_marks name.CodeFlowChunk (drop n seats)

  -- lines of a paragraph: each is a chunk with its line ending, the last without it
  abbrev pub text_marks : (has_previous : Bool) → List Line → List Mark
  text_marks has_previous [] = []
  text_marks has_previous (line ∷ []) = chunk_span (Some (record { content = content.Text; has_previous = has_previous; has_next = false })) name.Data (line_text line) []
  text_marks has_previous (line ∷ lines) = chunk_span (Some (record { content = content.Text; has_previous = has_previous; has_next = true })) name.Data line [] ++ text_marks true lines

  -- lines with their line endings; that of the last only if the block is open
  abbrev pub lines_marks : (List Seat → List Mark) → (is_open : Bool) → List Line → List Mark
  lines_marks marks is_open [] = []
  lines_marks marks is_open (line ∷ []) = marks (line_text line) ++ cond is_open (line_end line) []
  lines_marks marks is_open (line ∷ lines) = marks (line_text line) ++ (line_end line ++ lines_marks marks is_open lines)

  abbrev pub last_end : List Line → List Mark
  last_end [] = []
  last_end (line ∷ []) = line_end line
  last_end (line ∷ lines) = last_end lines

  -- a block over its lines, with the last line ending behind it; or over that too, if it is open
  abbrev pub block_span : Name → (is_open : Bool) → List Line → List Mark → List Mark
  block_span n false lines inside = span_marks n (body lines) inside ++ last_end lines
  block_span n true lines inside = span_marks n (all_of lines) inside

  -- Fenced code behind its opening fence: its lines, and its closing fence
  abbrev pub fenced_marks : Fence → (is_closed : Bool) → List Line → List Mark
  fenced_marks f is_closed [] = []
  fenced_marks f is_closed (line ∷ []) =
      cond is_closed (span_marks name.CodeFencedFence (line_text line) (sequence_marks name.CodeFencedFenceSequence (run f.byte (unindented (bytes_of (line_text line)))) (line_text line)))
      (code_marks f.indent (line_text line) ++ line_end line)
  fenced_marks f is_closed (line ∷ lines) = code_marks f.indent (line_text line) ++ (line_end line ++ fenced_marks f is_closed lines)

  -- Fenced code, by what the strings of its opening fence are read as
  abbrev pub code_fenced_around : (List Seat → List Mark) → Fence → (is_closed : Bool) → List Line → List Mark
  code_fenced_around read f is_closed [] = []
  code_fenced_around read f is_closed (line ∷ []) = fence_around read f.size (line_text line) ++ line_end line
  code_fenced_around read f is_closed (line ∷ lines) = fence_around read f.size (line_text line) ++ (line_end line ++ fenced_marks f is_closed lines)

  abbrev pub code_fenced_marks : Fence → (is_closed : Bool) → List Line → List Mark
  code_fenced_marks f is_closed lines = code_fenced_around string_chunk f is_closed lines

  -- HTML: the white space before it is data of its own
  abbrev pub html_marks : (is_open : Bool) → List Line → List Mark
  html_marks is_open [] = []
  html_marks is_open (line ∷ lines) =
      let columns = indent (bytes_of (line_text line)) in
      leaf_marks name.HtmlFlowData (take columns line) ++ lines_marks (leaf_marks name.HtmlFlowData) is_open (drop columns line ∷ lines)

  -- Underline of a setext heading: white space, marks, white space
  abbrev pub underline_inside : List Seat → List Mark
  underline_inside seats = sequence_marks name.HeadingSetextUnderlineSequence (prefix_len (λ c. not (is_white c)) (unindented (bytes_of seats))) seats

  abbrev pub underline_marks : List Seat → List Mark
  underline_marks seats = span_marks name.HeadingSetextUnderline seats (underline_inside seats)

  -- The events of a leaf block, by what the text of an ATX heading, other lines of text, and strings are read as
  abbrev pub block_around : (text : List Seat → List Mark) → (lines_of_text : List Line → List Mark) → (string : List Seat → List Mark) → LeafBlock → List Mark
  block_around text lines_of_text string (blank_line line) = white (line_text line) ++ leaf_marks name.BlankLineEnding (ending_of line)
  block_around text lines_of_text string (break_line line) = block_span name.ThematicBreak false (line ∷ []) (break_marks (length line) (line_text line))
  block_around text lines_of_text string (atx_heading line) = block_span name.HeadingAtx false (line ∷ []) (heading_around text (line_text line))
  block_around text lines_of_text string (paragraph lines) = block_span name.Paragraph false lines (lines_of_text lines)
  block_around text lines_of_text string (setext_heading rank lines underline) =
      block_span name.HeadingSetext false (lines ++ underline ∷ [])
      (span_marks name.HeadingSetextText (body lines) (lines_of_text lines) ++ (last_end lines ++ underline_marks (line_text underline)))
  block_around text lines_of_text string (indented_code lines) = block_span name.CodeIndented false lines (lines_marks (code_marks 4) false lines)
  block_around text lines_of_text string (fenced_code f is_closed lines) = block_span name.CodeFenced (not is_closed) lines (code_fenced_around string f is_closed lines)
  block_around text lines_of_text string (html_block kind is_closed lines) = block_span name.HtmlFlow (not is_closed) lines (html_marks (not is_closed) lines)

  -- The events of a leaf block, with its chunks
  abbrev pub leaf_block_marks : LeafBlock → List Mark
  leaf_block_marks block = block_around text_chunk (text_marks false) string_chunk block

  abbrev pub leaf_blocks_marks : List LeafBlock → List Mark
  leaf_blocks_marks blocks = flat_map leaf_block_marks blocks

-- The events of marks, of which the first has this index. A chunk is an enter and an exit, so the chunk of the line before begins two events
-- before it, and that of the line behind two events behind it
abbrev pub linked_from : (index : ℕ) → List Mark → List Event
linked_from i [] = []
linked_from i ((e, None) ∷ marks) = e ∷ linked_from (i + 1) marks
linked_from i ((e, Some chunk) ∷ marks) =
    record e { link = Some (record { previous = cond chunk.has_previous (Some (i - 2)) None; next = cond chunk.has_next (Some (i + 2)) None; content = chunk.content }) }
    ∷ linked_from (i + 1) marks

-- `Flow`: the leaf blocks of a text, by its virtual bytes
abbrev pub flow_events : Constructs → (bytes : List ℕ) → List Seat → List Event
flow_events on bytes seats = linked_from 0 (leaf_blocks_marks bytes (leaf_blocks on (lines_in seats)))
