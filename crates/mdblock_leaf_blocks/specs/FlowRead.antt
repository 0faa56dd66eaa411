-- How any text is read as a whole: as its leaf blocks, before the edits of setext headings. A paragraph's lines are read before its underline,
-- so a setext heading is read as a paragraph and an underline, and edits, which wait for the end, make it a heading (BlocksTold).
use Rattle.std.specs.Prelude.{◌≡◌, ◌<◌, ◌^◌, ◌-◌, [], Bool, Contains, List, length}
use Rattle.markdown_base.specs.declared.state.State.TheVariants.{Next, Ok}
use Rattle.markdown_base.specs.declared.state.Name.{Name}
use Rattle.markdown_tokenizer.specs.Configuration.{start_configuration}
use Rattle.markdown_tokenizer.specs.Reading.{Reading, EndsIn}
use Rattle.markdown_tokenizer.specs.Text.{Given, Text}
use Rattle.mdconstructs_tables.specs.Rows.{table_step}
use Rattle.mdblock_leaf_rows.specs.FlowTable.{flow}
use Rattle.mdblock_leaf_blocks.specs.BlocksTold.{flow_told}
use Rattle.mdblock_leaf_blocks.specs.LeafEvents.{linked_from}
use Rattle.mdblock_leaf_blocks.specs.ToldMarks.{ToldMark, before_edits, told_edits}

-- The reading of a text from this start ends well, with the events of these marks and the edits that they tell. The flag says whether the text is
-- in the first paragraph of a list item
pub record IsToldAs (g : Given) (t : Text) (flag : Bool) (start : Name) (told : List ToldMark) : Type 0 where
  pub result : Reading Unit Unit
  pub ends : EndsIn g (table_step flow g) t 0 (start_configuration flag) [] (Next start) result
  pub well : result.answer ≡ Ok
  pub events_are : result.configuration.events ≡ linked_from 0 (before_edits told)
  pub edits : result.configuration.local.map ≡ told_edits 0 told
  pub resolvers : result.configuration.local.resolvers ≡ []

-- Any text is read as its leaf blocks are told, from each of the machine's starts, whatever constructs are on, and also with gaps between its
-- virtual bytes, as places come from these alone. Counts have room for every byte
abbrev pub FlowIsRead : Type 0
FlowIsRead = (g : Given) (t : Text) (flag : Bool) (start : Name) → Contains flow.starts start → length t.seats < 2 ^ 64 - 1
    → IsToldAs g t flag start (flow_told g.options.constructs g.bytes t.seats)
