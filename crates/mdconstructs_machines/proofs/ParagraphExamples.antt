-- Documents, and the events of their paragraphs written out: examples of the definition, each proved by computing.
use Rattle.mdconstructs_machines.proofs.Prelude.{◌≡◌, ℕ, List, [], ◌∷◌, Option, Some, None, refl, codes, Event, Enter, Paragraph, Data, BlankLineEnding, BlockQuoteMarker, point, virtual, paragraph_events}
use Rattle.markdown_base.specs.declared.event.Content.TheVariants.{Text}
use Rattle.mdconstructs_machines.proofs.LineExamples.{begins, ends}

-- the events of a whole document, with tab stops at every four columns
abbrev events_of : List ℕ → List Event
events_of bytes = paragraph_events bytes (virtual 4 bytes)

-- a chunk begins: at which indices the chunks before and after it begin, and where
abbrev chunk : (previous next : Option ℕ) → (line column index : ℕ) → Event
chunk previous next line column index =
    record { kind = Enter; name = Data; point = point line column index 0; link = Some (record { previous = previous; next = next; content = Text }) }

-- No bytes, and only line endings
pub no-bytes : events_of [] ≡ []
no-bytes = refl

pub blank-lines : events_of (codes "\n\n") ≡ begins BlankLineEnding 1 1 0 ∷ ends BlankLineEnding 2 1 1 ∷ begins BlankLineEnding 2 1 1 ∷ ends BlankLineEnding 3 1 2 ∷ []
blank-lines = refl

-- Two paragraphs with a blank line between them: the chunks of the first are linked, and that of the second has no neighbours
pub two-paragraphs : events_of (codes "> a\nb\n\nc") ≡ begins Paragraph 1 1 0 ∷ begins BlockQuoteMarker 1 1 0 ∷ ends BlockQuoteMarker 1 2 1 ∷ chunk None (Some 5) 1 2 1 ∷ ends Data 2 1 4
    ∷ chunk (Some 3) None 2 1 4 ∷ ends Data 3 1 6 ∷ ends Paragraph 3 1 6 ∷ begins BlankLineEnding 3 1 6 ∷ ends BlankLineEnding 4 1 7
    ∷ begins Paragraph 4 1 7 ∷ chunk None None 4 1 7 ∷ ends Data 4 2 8 ∷ ends Paragraph 4 2 8 ∷ []
two-paragraphs = refl

-- Three lines in one paragraph, with a quote mark in the second
pub three-lines : events_of (codes "a\n>b\nc\n") ≡ begins Paragraph 1 1 0 ∷ chunk None (Some 5) 1 1 0 ∷ ends Data 2 1 2 ∷ begins BlockQuoteMarker 2 1 2 ∷ ends BlockQuoteMarker 2 2 3
    ∷ chunk (Some 1) (Some 7) 2 2 3 ∷ ends Data 3 1 5 ∷ chunk (Some 5) None 3 1 5 ∷ ends Data 4 1 7 ∷ ends Paragraph 4 1 7 ∷ []
three-lines = refl

-- A quote mark that ends the document has no chunk; before a line ending, its chunk is that
pub mark-alone : events_of (codes ">") ≡ begins Paragraph 1 1 0 ∷ begins BlockQuoteMarker 1 1 0 ∷ ends BlockQuoteMarker 1 2 1 ∷ ends Paragraph 1 2 1 ∷ []
mark-alone = refl

pub mark-in-line : events_of (codes ">\n") ≡ begins Paragraph 1 1 0 ∷ begins BlockQuoteMarker 1 1 0 ∷ ends BlockQuoteMarker 1 2 1 ∷ chunk None None 1 2 1 ∷ ends Data 2 1 2 ∷ ends Paragraph 2 1 2 ∷ []
mark-in-line = refl

pub mark-at-end : events_of (codes ">\n>") ≡ begins Paragraph 1 1 0 ∷ begins BlockQuoteMarker 1 1 0 ∷ ends BlockQuoteMarker 1 2 1 ∷ chunk None None 1 2 1 ∷ ends Data 2 1 2
    ∷ begins BlockQuoteMarker 2 1 2 ∷ ends BlockQuoteMarker 2 2 3 ∷ ends Paragraph 2 2 3 ∷ []
mark-at-end = refl

-- Of two quote marks the second is in the chunk, and so is one behind a tab
pub two-marks : events_of (codes ">>") ≡ begins Paragraph 1 1 0 ∷ begins BlockQuoteMarker 1 1 0 ∷ ends BlockQuoteMarker 1 2 1 ∷ chunk None None 1 2 1 ∷ ends Data 1 3 2 ∷ ends Paragraph 1 3 2 ∷ []
two-marks = refl

pub mark-behind-tab : events_of (codes "a\n\t>b") ≡ begins Paragraph 1 1 0 ∷ chunk None (Some 3) 1 1 0 ∷ ends Data 2 1 2 ∷ chunk (Some 1) None 2 1 2 ∷ ends Data 2 7 5 ∷ ends Paragraph 2 7 5 ∷ []
mark-behind-tab = refl

-- A quote mark before a tab: the chunk is the whole tab
pub mark-before-tab : events_of (codes ">\ta") ≡ begins Paragraph 1 1 0 ∷ begins BlockQuoteMarker 1 1 0 ∷ ends BlockQuoteMarker 1 2 1 ∷ chunk None None 1 2 1 ∷ ends Data 1 6 3 ∷ ends Paragraph 1 6 3 ∷ []
mark-before-tab = refl

-- CR LF ends a line, and a line of nothing else is blank
pub carriage-return : events_of (codes "a\r\nb\r\n\r\n") ≡ begins Paragraph 1 1 0 ∷ chunk None (Some 3) 1 1 0 ∷ ends Data 2 1 3 ∷ chunk (Some 1) None 2 1 3 ∷ ends Data 3 1 6 ∷ ends Paragraph 3 1 6
    ∷ begins BlankLineEnding 3 1 6 ∷ ends BlankLineEnding 4 1 8 ∷ []
carriage-return = refl
