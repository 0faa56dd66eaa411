-- The events of a document's leaf blocks with their texts and strings read, from the virtual bytes of their lines. The definitions have no states.
use Rattle.std.specs.Prelude.{ℕ, Bool, List, map, None}
use Rattle.std.specs.List.{flat_map}
use Rattle.markdown_base.specs.declared.configuration.Constructs.{Constructs}
use Rattle.markdown_base.specs.declared.configuration.ParseOptions.{ParseOptions}
use Rattle.markdown_base.specs.declared.event.Event.{Event}
use Rattle.markdown_base.specs.Virtual.{Seat}
use Rattle.mdconstructs_machines.specs.LineEvents.{lines_in}
use Rattle.mdinline_links.specs.Linked.{with_links}
use Rattle.mdblock_leaf_blocks.specs.LeafBlocks.{LeafBlock, leaf_blocks}
use Rattle.mdblock_leaf_blocks.specs.LeafEvents.{Mark, block_around, body, linked_from}
use Rattle.mdinline_machine.specs.InlineEvents.{inline_items}
use Rattle.mdinline_machine.specs.InlineRules.{no_labels}
use Rattle.mdinline_machine.specs.StringEvents.{string_seat_events}
use Rattle.mdinline_text_machine.specs.TextEvents.{item_events}

-- What the virtual bytes of a text are read as; and the bytes of a document
module _ (reads : List Seat → List Event) (bytes : List ℕ) where
  -- the events of a text, as marks
  abbrev pub read_marks : List Seat → List Mark
  read_marks seats = map (λ e. (e, None)) (reads seats)

-- what texts are read as, and strings: info strings of fenced code
module _ (texts strings : List Seat → List Event) where
  -- the events of a leaf block with its texts and strings read
  abbrev pub block_texts : (bytes : List ℕ) → LeafBlock → List Mark
  block_texts bytes block = block_around bytes (read_marks texts bytes) (λ lines. read_marks texts bytes (body lines)) (read_marks strings bytes) block

  -- The leaf blocks of a text with their texts and strings read, by its virtual bytes. No chunk is left
  abbrev pub flow_read : Constructs → (bytes : List ℕ) → List Seat → List Event
  flow_read on bytes seats = linked_from 0 (flat_map (block_texts bytes) (leaf_blocks on (lines_in seats)))

-- the events of virtual bytes of a document, as inline text, by which labels are defined
abbrev pub inline_seat_events : (defined : List ℕ → Bool) → ParseOptions → (bytes : List ℕ) → List Seat → List Event
inline_seat_events defined options bytes seats = with_links options.gfm_strikethrough_single_tilde bytes (flat_map (item_events bytes) (inline_items options.constructs defined bytes seats))

-- `Flow` with inline text: each text is read as `Inlines` reads it. Leaf blocks alone define no labels
abbrev pub flow_inlines : ParseOptions → (bytes : List ℕ) → List Seat → List Event
flow_inlines options bytes seats = flow_read (inline_seat_events no_labels options bytes) (string_seat_events options.constructs bytes) options.constructs bytes seats
