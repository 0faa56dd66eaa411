-- Chains of content, each read as the leaf blocks of its text: what containers hold is read so.
use Rattle.std.specs.Prelude.{◌≡◌, List, Option, Some, map}
use Rattle.markdown_base.specs.declared.event.Content.{Content}
use Rattle.markdown_base.specs.declared.event.Content.TheVariants as content
use Rattle.markdown_base.specs.declared.event.Event.{Event}
use Rattle.markdown_base.specs.Events.{IsVoidTight}
use Rattle.markdown_children.specs.Chains.{fitting_starts}
use Rattle.markdown_children.specs.Children.{with_children}
use Rattle.markdown_children.specs.NextContent.{CanBeReadNext, HasTextInGaps}
use Rattle.markdown_children.specs.Reads.{IsSubtokenized}
use Rattle.markdown_children.specs.Ready.{IsReady}
use Rattle.markdown_tokenizer.specs.declared.subtokenize.Subresult.{Subresult}
use Rattle.markdown_tokenizer.specs.Text.{Given, Text, IsDocument, IsText}
use Rattle.mdinline_text_machine.specs.ChainTexts.{chain_text}
use Rattle.mdblock_leaf_rows.specs.FlowKnows.{flow_rules}
use Rattle.mdblock_leaf_blocks.specs.LeafEvents.{flow_events}

-- a list whose chains of content can be read
abbrev pub IsReadyForContent : Given → List Event → Type 0
IsReadyForContent g events = IsReady g.tab g.bytes (Some content.Content) events

-- one list is another with the children of its chains of content, which the machine of leaf blocks reads
abbrev pub HasBlocks : Given → (old new : List Event) → Subresult → Type 0
HasBlocks g old new sub = IsSubtokenized g flow_rules (Some content.Content) old new sub

-- the list with each chunk of each chain of content replaced by its part of the leaf blocks of the chain's text
abbrev pub with_blocks : Given → List Event → List Event
with_blocks g events =
    with_children (Some content.Content) events (map (λ c. flow_events g.options.constructs g.bytes (chain_text g events c).seats) (fitting_starts (Some content.Content) events))

-- The machine makes that of each list whose chains of content can be read
abbrev pub ReadsChainsAsLeafBlocks : Type 0
ReadsChainsAsLeafBlocks = (g : Given) (events new : List Event) (sub : Subresult) → IsDocument g → IsReadyForContent g events → HasBlocks g events new sub → new ≡ with_blocks g events

-- The new list is ready for any content for which the old one was, if that has text where it has events between the chunks of a chain. Void
-- spans stay empty. No test runs between the passes
abbrev pub LeafBlocksCanBeReadNext : Type 0
LeafBlocksCanBeReadNext = (g : Given) (events new : List Event) (sub : Subresult) (next : Option Content) → IsDocument g → IsReadyForContent g events → IsReady g.tab g.bytes next events
    → HasTextInGaps (Some content.Content) events → HasBlocks g events new sub → IsReady g.tab g.bytes next new × (IsVoidTight events → IsVoidTight new)

-- So it is as all chains of a text's leaf blocks can be read, at places that are shown, and none of its void spans goes over a gap
abbrev pub LeafBlocksOfTextsAreReadable : Type 0
LeafBlocksOfTextsAreReadable = (g : Given) (text : Text) (next : Option Content) → IsText g text → CanBeReadNext g next text (flow_events g.options.constructs g.bytes text.seats)
