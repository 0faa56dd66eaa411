-- The blocks of a document with link reference definitions: its leaf blocks in their containers, and its definitions.
use Rattle.std.specs.Prelude.{ℕ, List, map, Some}
use Rattle.markdown_base.specs.declared.event.Content.TheVariants.{Content}
use Rattle.markdown_base.specs.declared.event.Event.{Event}
use Rattle.markdown_base.specs.Virtual.{virtual}
use Rattle.markdown_tokenizer.specs.Text.{Given}
use Rattle.markdown_children.specs.Chains.{fitting_starts}
use Rattle.markdown_children.specs.Children.{with_children}
use Rattle.markdown_children.specs.Reads.{text_from}
use Rattle.mdblock_leaf_blocks.specs.LeafEvents.{flow_events}
use Rattle.mdblock_containers.specs.Letters.{with_letters}
use Rattle.mdblock_definitions.specs.Skeleton.{labels, letters, skeleton}

module _ (g : Given) where
  -- the skeleton of a document
  abbrev pub document_skeleton : List Event
  document_skeleton = skeleton g.options.constructs g.bytes (virtual g.tab g.bytes)

  -- The labels that a document defines
  abbrev pub labels_of : List (List ℕ)
  labels_of = labels g.options.constructs (virtual g.tab g.bytes)

  -- a document as leaf blocks are read of it: with a letter for each byte that makes its line text
  abbrev pub shown_as_text : Given
  shown_as_text = record g { bytes = with_letters (letters g.options.constructs (virtual g.tab g.bytes)) g.bytes }

  -- The blocks of a document: in place of each chain of its skeleton stand the leaf blocks of the chain's text (CommonMark, 4 and 5)
  abbrev pub document_blocks : List Event
  document_blocks =
      with_children (Some Content) document_skeleton
      (map (λ c. flow_events g.options.constructs shown_as_text.bytes (text_from shown_as_text document_skeleton c).seats) (fitting_starts (Some Content) document_skeleton))
