-- The events of a document, by the machine that reads it and without states.
use Rattle.std.specs.Prelude.{[], ◌≡◌, ℕ, Bool, List, Some, true, false}
use Rattle.std.specs.Option.{option_map_or}
use Rattle.markdown_base.specs.declared.configuration.Constructs.{Constructs}
use Rattle.markdown_base.specs.declared.configuration.ParseOptions.{ParseOptions}
use Rattle.markdown_base.specs.declared.event.Content.TheVariants.{Text as TextContent}
use Rattle.markdown_base.specs.declared.event.Event.{Event}
use Rattle.markdown_base.specs.Presets.{default_parse_options}
use Rattle.markdown_base.specs.Virtual.{Seat, virtual}
use Rattle.markdown_tokenizer.specs.Text.{Given, IsDocument}
use Rattle.markdown_tokenizer.specs.Engine.{given_by}
use Rattle.markdown_tokenizer.specs.Cuts.{cuts_every}
use Rattle.markdown_children.specs.Ready.{IsReady}
use Rattle.mdblock_leaf_blocks.specs.LeafEvents.{flow_events}
use Rattle.mdconstructs_machines.specs.LineEvents.{line_events, data_events, back_events, save_events}
use Rattle.mdconstructs_machines.specs.ParagraphEvents.{paragraph_events}
use Rattle.mdinline_text_machine.specs.ParagraphTexts.{paragraph_texts}
use Rattle.mdinline_text_machine.specs.TextEvents.{seat_events}
use Rattle.mdblock_text_lines.specs.DocumentBlocks.{document_blocks, document_leaf_blocks}
use Rattle.mddocument.specs.DocumentEvents.{document_events}
use Rattle.mddocument.specs.FlowTexts.{flow_inlines}
use Rattle.mddocument.specs.declared.choice.Choice.{Choice}
use Rattle.mddocument.specs.declared.choice.Which.{Which}
use Rattle.mddocument.specs.declared.choice.Which.TheVariants.{Lines, Paragraphs, Peek, Deep, Back, Save, Text, Flow, Document}

-- the default options with these constructs, and with tab stops at every `t` columns
abbrev pub options_with : Constructs → (t : ℕ) → ParseOptions
options_with constructs t = record default_parse_options { constructs = constructs; tab_size = t }

-- a document, read with these options
abbrev pub document : ParseOptions → List ℕ → Given
document options bytes = given_by bytes options

-- a document and how it is read
module _ (options : ParseOptions) (bytes : List ℕ) where
  -- its virtual bytes
  abbrev pub virtual_bytes : List Seat
  virtual_bytes = virtual options.tab_size bytes

  -- Leaf blocks: the events of the text's lines, cut into blocks
  abbrev pub AreFlowEvents : List Event → Type 0
  AreFlowEvents events = events ≡ flow_events options.constructs bytes virtual_bytes

  -- the chains of text of a list can be read
  abbrev pub IsReadable : List Event → Type 0
  IsReadable events = IsReady options.tab_size bytes (Some TextContent) events

  -- and with their texts read as inline text, and strings as strings
  abbrev pub AreFlowInlines : List Event → Type 0
  AreFlowInlines events = events ≡ flow_inlines options bytes virtual_bytes

  -- Containers and the leaf blocks in them
  abbrev pub AreDocumentLeafBlocks : List Event → Type 0
  AreDocumentLeafBlocks events = events ≡ document_leaf_blocks (document options bytes)

  -- and with the text of each cell of a table as a chain of its own
  abbrev pub AreDocumentBlocks : List Event → Type 0
  AreDocumentBlocks events = events ≡ document_blocks (document options bytes)

  -- and with their texts read as inline text, and all strings as strings, also those of destinations, titles and labels
  abbrev pub AreDocumentEvents : List Event → Type 0
  AreDocumentEvents events = events ≡ document_events (document options bytes)

-- the chains of text of what is read of a document as leaf blocks can be read
abbrev pub ChainsAreReadable : Type 0
ChainsAreReadable = (options : ParseOptions) (bytes : List ℕ) (events : List Event) → IsDocument (document options bytes) → AreFlowEvents options bytes events → IsReadable options bytes events

-- Events are the events of a document, by the machine that reads it, from the document's lines. Paragraphs have chunks; with `deep`, each
-- has the events of its text in their place: its lines as data, or its items. None of it has states.
abbrev pub AreEventsOf : (deep : Bool) → Which → ParseOptions → List ℕ → List Event → Type 0
AreEventsOf deep Lines options bytes events = events ≡ line_events bytes (virtual_bytes options bytes)
AreEventsOf deep Peek options bytes events = events ≡ data_events bytes (virtual_bytes options bytes)
AreEventsOf deep Deep options bytes events = events ≡ data_events bytes (virtual_bytes options bytes)
AreEventsOf deep Back options bytes events = events ≡ back_events bytes (virtual_bytes options bytes)
AreEventsOf deep Save options bytes events = events ≡ save_events bytes (virtual_bytes options bytes)
AreEventsOf false Paragraphs options bytes events = events ≡ paragraph_events bytes (virtual_bytes options bytes)
AreEventsOf true Paragraphs options bytes events = events ≡ paragraph_texts (data_events bytes) bytes (virtual_bytes options bytes)
AreEventsOf false Text options bytes events = events ≡ paragraph_events bytes (virtual_bytes options bytes)
AreEventsOf true Text options bytes events = events ≡ paragraph_texts (seat_events options.constructs bytes) bytes (virtual_bytes options bytes)
AreEventsOf false Flow options bytes events = AreFlowEvents options bytes events
AreEventsOf true Flow options bytes events = AreFlowInlines options bytes events
AreEventsOf false Document options bytes events = AreDocumentBlocks options bytes events
AreEventsOf true Document options bytes events = AreDocumentEvents options bytes events

-- the places at which a document is cut: none, or every n-th of its virtual bytes
abbrev pub cut_places : Choice → List ℕ → List (ℕ × ℕ)
cut_places choice bytes = option_map_or (cuts_every choice.tab bytes) choice.cut []
