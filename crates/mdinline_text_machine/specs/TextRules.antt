-- The rules of the machine of texts: for paragraphs, and for the texts in them. It has a start for each.
use Rattle.std.specs.Prelude.{[], ◌∷◌}
use Rattle.markdown_base.specs.declared.state.TheConstants.Name.{FlowStart}
use Rattle.markdown_tokenizer.specs.Text.{Given}
use Rattle.markdown_tokenizer.specs.Rules.{Rules}
use Rattle.markdown_tokenizer.specs.Engine.{EndsWellFormed}
use Rattle.markdown_tokenizer.specs.Plain.{plain as without_links}
use Rattle.mdconstructs_tables.specs.Rows.{Table}
use Rattle.mdconstructs_tables.specs.Joined.{has_state, joined_rules}
use Rattle.mdconstructs_tables.specs.Knowledge.{knowing_rules}
use Rattle.mdconstructs_tables.specs.Late.{late_rules}
use Rattle.mdconstructs_tables.specs.Tables.{LineByte}
use Rattle.mdconstructs_tables.specs.Paragraphs.{flow_start, paragraph_line_start, paragraph_start, paragraph_inside, paragraphs, knows_chunk}
use Rattle.mdinline_text_machine.specs.TextTable.{texts, begins_construct, follows_construct}

-- the states of the machine of paragraphs, without the states of its texts
abbrev pub flow : Table LineByte Unit Unit
flow = record paragraphs { states = flow_start ∷ paragraph_line_start ∷ paragraph_start ∷ paragraph_inside ∷ []; starts = FlowStart ∷ [] }

-- the rules of paragraphs: chunks of text are linked
abbrev pub flow_rules : Given → Rules Unit Unit
flow_rules = knowing_rules flow knows_chunk EndsWellFormed

-- the rules of a text: no resolver is registered, no edit is made, nothing is linked, and no construct is empty
abbrev pub inline_rules : Given → Rules Unit Unit
inline_rules g = without_links (late_rules texts begins_construct follows_construct g)

-- the rules of both
abbrev pub text_rules : Given → Rules Unit Unit
text_rules g = joined_rules (has_state flow.states) (flow_rules g) (inline_rules g)
