-- The events of documents whose paragraphs have their texts read, from the lines. The definition has no chains.
--
-- The text of a paragraph is what its lines have behind their quote marks. Its events stand where their places are among the lines, with the
-- quote marks between them.
use Rattle.std.specs.Prelude.{◌≡◌, ℕ, ◌++◌, List, [], ◌∷◌, length, drop}
use Rattle.std.specs.List.{flat_map}
use Rattle.markdown_base.specs.declared.event.Event.{Event}
use Rattle.markdown_base.specs.declared.event.Name.TheVariants.{BlankLineEnding, BlockQuoteMarker, Paragraph}
use Rattle.markdown_base.specs.Events.{IsInOrder, IsVoidTight}
use Rattle.markdown_base.specs.Places.{shown}
use Rattle.markdown_base.specs.Virtual.{Seat, end_after, virtual}
use Rattle.markdown_children.specs.Parts.{front_until}
use Rattle.markdown_tokenizer.specs.Text.{Given, IsDocument}
use Rattle.mdconstructs_machines.specs.LineEvents.{all_of, data_events, lines_in}
use Rattle.mdconstructs_machines.specs.ParagraphEvents.{Block, blank, paragraph, blocks_of, chunk_of, mark_of}
use Rattle.mdconstructs_machines.specs.Spans.{leaf, span}
use Rattle.mdinline_text_machine.specs.ChainTexts.{paragraphs_of, with_data, with_texts}
use Rattle.mdinline_text_machine.specs.TextEvents.{seat_events}

-- the text of lines: their chunks, one behind another
abbrev pub text_of : List (List Seat) → List Seat
text_of lines = flat_map chunk_of lines

module _ (bytes : List ℕ) where
  -- the first events of a text, up to the end of a chunk; none, if there is no chunk
  abbrev pub chunk_events : List Seat → List Event → List Event
  chunk_events [] es = []
  chunk_events (s ∷ ss) es = front_until (shown bytes (end_after s.end ss)) es

  -- lines, with the events of their text: the quote mark of each line, and then what its chunk has of these
  abbrev pub lines_with : List (List Seat) → List Event → List Event
  lines_with [] es = []
  lines_with (line ∷ lines) es =
      let part = chunk_events (chunk_of line) es in
      leaf bytes BlockQuoteMarker (mark_of line) ++ (part ++ lines_with lines (drop (length part) es))

-- What the virtual bytes of a text are read as; and the bytes of a document
module _ (reads : List Seat → List Event) (bytes : List ℕ) where
  -- a blank line, or a paragraph with its text read
  abbrev pub block_with : Block → List Event
  block_with (blank line) = leaf bytes BlankLineEnding line
  block_with (paragraph lines) = span bytes Paragraph (all_of lines) (lines_with bytes lines (reads (text_of lines)))

  -- blank lines, and paragraphs with their texts read
  abbrev pub paragraph_texts : List Seat → List Event
  paragraph_texts seats = flat_map block_with (blocks_of (lines_in seats))

-- of a document these are what `Paragraphs` and `Text` make of it, with the text of each chain in place of its chunks: as data, and as items
abbrev pub ParagraphsReadAsData : Type 0
ParagraphsReadAsData = (g : Given) → IsDocument g → with_data g (paragraphs_of g) ≡ paragraph_texts (data_events g.bytes) g.bytes (virtual g.tab g.bytes)

abbrev pub ParagraphsReadAsTexts : Type 0
ParagraphsReadAsTexts = (g : Given) → IsDocument g → with_texts g (paragraphs_of g) ≡ paragraph_texts (seat_events g.options.constructs g.bytes) g.bytes (virtual g.tab g.bytes)

-- of a document, with texts that are read so, they are in order of place, and void spans are empty
abbrev pub TextsAreInOrder : (reads : Given → List Seat → List Event) → Type 0
TextsAreInOrder reads = (g : Given) → IsDocument g → let events = paragraph_texts (reads g) g.bytes (virtual g.tab g.bytes) in IsVoidTight events × IsInOrder g.bytes events
