-- The events of a document: its containers, the leaf blocks in them, and the texts and strings of these. The definitions have no states.
use Rattle.std.specs.Prelude.{ℕ, Bool, List}
use Rattle.markdown_base.specs.declared.event.Event.{Event}
use Rattle.markdown_base.specs.Events.{IsVoidTight}
use Rattle.markdown_base.specs.Virtual.{virtual}
use Rattle.markdown_tokenizer.specs.Text.{Given, IsDocument}
use Rattle.mdblock_text_lines.specs.DocumentBlocks.{document_blocks}
use Rattle.mdblock_text_lines.specs.DocumentSections.{written_labels}
use Rattle.mdblock_definitions.specs.Labelled.{is_one_of}
use Rattle.mdinline_machine.specs.InlineChains.{with_inlines, with_strings as with_string_chunks}
use Rattle.mdinline_link_strings.specs.Strings.{with_strings}

-- A label is defined in a document: it is the same as that of one of its definitions (CommonMark, "Link reference definitions")
abbrev pub is_defined_in : Given → List ℕ → Bool
is_defined_in g label = is_one_of (written_labels g.options.constructs (virtual g.tab g.bytes)) label

-- The blocks of a document, with the inline text of each chain of text in place of its chunks, by which labels are defined, and then the events of each
-- chunk of a string
abbrev pub document_texts_by : (defined : List ℕ → Bool) → Given → List Event
document_texts_by defined g = with_string_chunks g (with_inlines defined g (document_blocks g))

-- and then with the strings read in which destinations, titles and labels stand
abbrev pub document_events_by : (defined : List ℕ → Bool) → Given → List Event
document_events_by defined g = with_strings g.options.constructs g.tab g.bytes (document_texts_by defined g)

-- The same by the labels that are defined in the document
abbrev pub document_texts : Given → List Event
document_texts g = document_texts_by (is_defined_in g) g

-- The events of a document
abbrev pub document_events : Given → List Event
document_events g = document_events_by (is_defined_in g) g

-- Void spans of the events of each document are empty: no chunks of a paragraph's lines tear one
abbrev pub DocumentEventsAreTight : Type 0
DocumentEventsAreTight = (g : Given) → IsDocument g → IsVoidTight (document_events g)
