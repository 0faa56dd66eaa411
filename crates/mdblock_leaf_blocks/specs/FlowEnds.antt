-- The main theorem on leaf blocks: the machine's events are those of the definition. The machine goes through a text byte by byte, by a
-- table of states. The definition knows no states: a text is cut into lines (LineEvents), each line is of a kind (LineKinds), lines are cut into
-- blocks by their kinds (LeafBlocks), and each block has its events (LeafEvents, `flow_events`). Whatever the text, whatever constructs are on,
-- both give the same events. So who uses the events need not know the machine.
use Rattle.std.specs.Prelude.{◌≡◌, ◌<◌, ◌^◌, ◌-◌, [], Bool, true, Contains, length}
use Rattle.markdown_base.specs.declared.state.State.TheVariants.{Next, Ok}
use Rattle.markdown_base.specs.declared.state.Name.{Name}
use Rattle.markdown_tokenizer.specs.Configuration.{Configuration, start_configuration}
use Rattle.markdown_tokenizer.specs.declared.subtokenize.Subresult.{Subresult}
use Rattle.markdown_tokenizer.specs.Reading.{Reading, EndsIn}
use Rattle.markdown_tokenizer.specs.Resolving.{IsResolved}
use Rattle.markdown_tokenizer.specs.Text.{Given, Text}
use Rattle.mdblock_leaf_rows.specs.FlowKnows.{flow_rules}
use Rattle.mdblock_leaf_rows.specs.FlowTable.{flow}
use Rattle.mdblock_leaf_blocks.specs.LeafEvents.{flow_events}

-- A reading of a text ended well; and when its edits are made (all is resolved then), its events are those of the text's leaf blocks
pub record EndsAsBlocks (g : Given) (t : Text) (r : Reading Unit Unit) : Type 0 where
  pub well : r.answer ≡ Ok
  pub events_are : (final : Configuration Unit Unit) (sub : Subresult) → IsResolved (flow_rules g).resolver g t true r.configuration final sub
      → final.events ≡ flow_events g.options.constructs g.bytes t.seats

-- Each reading of a text from one of the machine's starts ends so: that of documents, or that of chains of content. The text may be in the
-- first paragraph of a list item (the flag). Counts have room for every byte
abbrev pub FlowEnds : Type 0
FlowEnds = (g : Given) (t : Text) (flag : Bool) (start : Name) → Contains flow.starts start → length t.seats < 2 ^ 64 - 1 → (r : Reading Unit Unit)
    → EndsIn g (flow_rules g).step t 0 (start_configuration flag) [] (Next start) r → EndsAsBlocks g t r
