-- The blocks of a document: its leaf blocks in their containers.
use Rattle.std.specs.Prelude.{List, map, Some}
use Rattle.markdown_base.specs.declared.event.Content.TheVariants.{Content}
use Rattle.markdown_base.specs.declared.event.Event.{Event}
use Rattle.markdown_base.specs.Virtual.{virtual}
use Rattle.markdown_tokenizer.specs.Text.{Given}
use Rattle.markdown_children.specs.Chains.{fitting_starts}
use Rattle.markdown_children.specs.Children.{with_children}
use Rattle.markdown_children.specs.Reads.{text_from}
use Rattle.mdblock_leaf_blocks.specs.LeafEvents.{flow_events}
use Rattle.mdblock_containers.specs.Letters.{lazy_underlines, with_letters}
use Rattle.mdblock_containers.specs.Skeleton.{skeleton}

module _ (g : Given) where
  -- the skeleton of a document
  abbrev pub document_skeleton : List Event
  document_skeleton = skeleton g.options.constructs g.bytes (virtual g.tab g.bytes)

  -- a document as leaf blocks are read of it: with a letter for the first mark of each lazy underline
  abbrev pub with_lazy_letters : Given
  with_lazy_letters = record g { bytes = with_letters (lazy_underlines g.options.constructs (virtual g.tab g.bytes)) g.bytes }

  -- The blocks of a document: in place of each chain of its skeleton stand the leaf blocks of the chain's text (CommonMark, 4 and 5)
  abbrev pub document_blocks : List Event
  document_blocks =
      let shown = with_lazy_letters in
      with_children (Some Content) document_skeleton
      (map (λ c. flow_events g.options.constructs shown.bytes (text_from shown document_skeleton c).seats) (fitting_starts (Some Content) document_skeleton))
