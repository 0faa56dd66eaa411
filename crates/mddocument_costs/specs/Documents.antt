-- The passes in which a document is read, and how many calls of states they make.
use Rattle.std.specs.Prelude.{◌≡◌, ℕ, ◌+◌, ◌-◌, ◌*◌, ◌^◌, ◌<◌, ◌≤◌, Bool, List, length, None}
use Rattle.markdown_base.specs.declared.event.Event.{Event}
use Rattle.markdown_base.specs.Virtual.{virtual}
use Rattle.markdown_children.specs.Reads.{IsSubtokenized}
use Rattle.markdown_tokenizer.specs.declared.subtokenize.Subresult.{Subresult}
use Rattle.markdown_tokenizer.specs.Text.{Given, IsDocument}
use Rattle.mdblock_leaf_rows.specs.FlowKnows.{flow_rules}
use Rattle.mdinline_machine.specs.InlineRules.{inlines_rules}
use Rattle.mdblock_table_marks.specs.Cells.{with_cells}
use Rattle.mdblock_definitions.specs.Blocks.{document_skeleton, shown_as_text}
use Rattle.mdinline_link_strings.specs.Strings.{with_strings}
use Rattle.mdblock_text_lines.specs.DocumentBlocks.{document_blocks}
use Rattle.mddocument.specs.DocumentEvents.{document_events_by}
use Rattle.mddocument_costs.specs.Chains.{calls_in}

-- A document is read in two passes of states: first its skeleton gets the leaf blocks of its chains, and then these blocks, in which the text of each cell is
-- a chain, get their texts and strings, by whatever labels are defined. The skeleton itself, and the strings of destinations, titles and labels, are read by plain code
pub record Passes (g : Given) (defined : List ℕ → Bool) : Type 0 where
  pub blocks : List Event
  pub found : Subresult
  pub leaf_blocks : IsSubtokenized (shown_as_text g) flow_rules None (document_skeleton g) blocks found
  pub events : List Event
  pub more : Subresult
  pub texts : IsSubtokenized g (inlines_rules defined) None (with_cells g.options.constructs blocks) events more

module _ (g : Given) (defined : List ℕ → Bool) (passes : Passes g defined) where
  -- how many calls of states the first pass makes, and the second
  abbrev pub calls_of_blocks : ℕ
  calls_of_blocks = calls_in (shown_as_text g) flow_rules None (document_skeleton g) passes.blocks passes.found passes.leaf_blocks

  abbrev pub calls_of_texts : ℕ
  calls_of_texts = calls_in g (inlines_rules defined) None (with_cells g.options.constructs passes.blocks) passes.events passes.more passes.texts

-- Both passes make at most 397 calls for each virtual byte: 19 the first, and 378 the second
pub record AreLinear (g : Given) (defined : List ℕ → Bool) (passes : Passes g defined) : Type 0 where
  pub blocks : calls_of_blocks g defined passes ≤ 19 * length (virtual g.tab g.bytes)
  pub texts : calls_of_texts g defined passes ≤ 378 * length (virtual g.tab g.bytes)
  pub all : calls_of_blocks g defined passes + calls_of_texts g defined passes ≤ 397 * length (virtual g.tab g.bytes)

-- So it is with each document, if so many calls can be counted
abbrev pub DocumentsAreLinear : Type 0
DocumentsAreLinear = (g : Given) (defined : List ℕ → Bool) (passes : Passes g defined) → IsDocument g → 374 * length (virtual g.tab g.bytes) + 4 < 2 ^ 64 - 1 → AreLinear g defined passes

-- Passes are of their document: they leave its blocks, and with these its events. By the labels that the document defines those are what `read_document`
-- returns. And any others make as many calls: how many are counted is a number of the document
pub record AreOfDocument (g : Given) (defined : List ℕ → Bool) (passes : Passes g defined) : Type 0 where
  pub blocks : with_cells g.options.constructs passes.blocks ≡ document_blocks g
  pub events : with_strings g.options.constructs g.tab g.bytes passes.events ≡ document_events_by defined g
  pub calls : (others : Passes g defined) → (calls_of_blocks g defined passes ≡ calls_of_blocks g defined others) × (calls_of_texts g defined passes ≡ calls_of_texts g defined others)

-- So are all passes of each document
abbrev pub PassesAreOfDocuments : Type 0
PassesAreOfDocuments = (g : Given) (defined : List ℕ → Bool) (passes : Passes g defined) → IsDocument g → AreOfDocument g defined passes
