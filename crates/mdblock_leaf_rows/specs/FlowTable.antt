-- The table of the machine of leaf blocks, as its constructs give it.
use Rattle.std.specs.Prelude.{[], ◌∷◌}
use Rattle.markdown_base.specs.declared.state.TheConstants.Name.{ContentDefinitionBefore, FlowStart}
use Rattle.markdown_tokenizer.specs.Configuration.{Local}
use Rattle.mdconstructs_tables.specs.Rows.{Table}
use Rattle.mdblock_leaf_rows.specs.FlowBytes.{FlowByte, flow_byte}
use Rattle.mdblock_leaf_rows.specs.Flow.{flow_start, content_definition_before, flow_blank_line_after, flow_after}
use Rattle.mdblock_leaf_rows.specs.Look.{flow_blank_line_before, paragraph_look_start}
use Rattle.mdblock_leaf_rows.specs.BlankLine.{blank_line_start}
use Rattle.mdblock_leaf_rows.specs.ThematicBreak.{flow_before_thematic_break, thematic_break_before, thematic_break_at_break, thematic_break_sequence}
use Rattle.mdblock_leaf_rows.specs.HeadingAtx.{flow_before_heading_atx, heading_atx_look_start, heading_atx_look_text, heading_atx_look_blank, heading_atx_look_signs, heading_atx_look_after, heading_atx_start, heading_atx_sequence_open, heading_atx_at_break, heading_atx_before, heading_atx_data}
use Rattle.mdblock_leaf_rows.specs.HeadingSetext.{flow_before_heading_setext, heading_setext_look_after, heading_setext_text_after, heading_setext_start, heading_setext_before, heading_setext_inside, heading_setext_after}
use Rattle.mdblock_leaf_rows.specs.CodeIndented.{code_indented_start, code_indented_at_break, code_indented_further_after, code_indented_inside, code_indented_further_start, code_indented_line_after, code_indented_after, code_indented_further_begin}
use Rattle.mdblock_leaf_rows.specs.CodeFenced.{flow_before_raw, raw_flow_look_info, raw_flow_start, raw_flow_sequence_open, raw_flow_info_before, raw_flow_before_sequence_open, raw_flow_info, raw_flow_info_after, raw_flow_meta_before, raw_flow_meta, raw_flow_at_non_lazy_break, raw_flow_close_start, raw_flow_before_sequence_close, raw_flow_sequence_close, raw_flow_after_sequence_close, raw_flow_content_before, raw_flow_content_start, raw_flow_before_content_chunk, raw_flow_content_chunk, raw_flow_after, raw_flow_close_before, raw_flow_close_blank, raw_flow_close_sequence, raw_flow_close_between}
use Rattle.mdblock_leaf_rows.specs.HtmlTags.{html_flow_open, html_flow_declaration_open, html_flow_comment_open_inside, html_flow_cdata_open_inside, html_flow_tag_close_start, html_flow_tag_name, html_flow_basic_self_closing, html_flow_complete_closing_tag_after, html_flow_complete_end, html_flow_complete_attribute_name_before, html_flow_complete_attribute_name, html_flow_complete_attribute_name_after, html_flow_complete_attribute_value_before, html_flow_complete_attribute_value_quoted, html_flow_complete_attribute_value_quoted_after, html_flow_complete_attribute_value_unquoted, html_flow_complete_after}
use Rattle.mdblock_leaf_rows.specs.HtmlFlow.{html_flow_start, html_flow_continuation, html_flow_continuation_comment_inside, html_flow_continuation_cdata_inside, html_flow_continuation_declaration_inside, html_flow_continuation_raw_tag_open, html_flow_continuation_raw_end_tag, html_flow_continuation_close, html_flow_continuation_before, html_flow_blank_line_before, html_flow_blank_line_inside, html_flow_continuation_after, html_flow_continuation_start}
use Rattle.mdblock_leaf_rows.specs.Paragraph.{flow_before_content, paragraph_start, paragraph_inside, paragraph_line_start, paragraph_line_after}

-- a call writes nothing before its rows do
abbrev pub unchanged : {R D : Type 0} → Local R D → Local R D
unchanged local = local

-- Leaf blocks: its states, construct by construct
abbrev pub flow : Table FlowByte Unit Unit
flow = record {
  class = flow_byte;
  first = unchanged;
  states =
      flow_start ∷ content_definition_before ∷ flow_blank_line_after ∷ flow_after
      ∷ flow_blank_line_before ∷ paragraph_look_start
      ∷ blank_line_start
      ∷ flow_before_thematic_break ∷ thematic_break_before ∷ thematic_break_at_break ∷ thematic_break_sequence
      ∷ flow_before_heading_atx ∷ heading_atx_look_start ∷ heading_atx_look_text ∷ heading_atx_look_blank ∷ heading_atx_look_signs ∷ heading_atx_look_after ∷ heading_atx_start ∷ heading_atx_sequence_open ∷ heading_atx_at_break ∷ heading_atx_before ∷ heading_atx_data
      ∷ code_indented_start ∷ code_indented_at_break ∷ code_indented_further_after ∷ code_indented_inside ∷ code_indented_further_start ∷ code_indented_line_after ∷ code_indented_after ∷ code_indented_further_begin
      ∷ flow_before_raw ∷ raw_flow_look_info ∷ raw_flow_start ∷ raw_flow_sequence_open ∷ raw_flow_info_before ∷ raw_flow_before_sequence_open ∷ raw_flow_info ∷ raw_flow_info_after ∷ raw_flow_meta_before ∷ raw_flow_meta ∷ raw_flow_at_non_lazy_break ∷ raw_flow_close_start ∷ raw_flow_before_sequence_close ∷ raw_flow_sequence_close ∷ raw_flow_after_sequence_close ∷ raw_flow_content_before ∷ raw_flow_content_start ∷ raw_flow_before_content_chunk ∷ raw_flow_content_chunk ∷ raw_flow_after ∷ raw_flow_close_before ∷ raw_flow_close_blank ∷ raw_flow_close_sequence ∷ raw_flow_close_between
      ∷ flow_before_heading_setext ∷ heading_setext_look_after ∷ heading_setext_text_after ∷ heading_setext_start ∷ heading_setext_before ∷ heading_setext_inside ∷ heading_setext_after
      ∷ html_flow_open ∷ html_flow_declaration_open ∷ html_flow_comment_open_inside ∷ html_flow_cdata_open_inside ∷ html_flow_tag_close_start ∷ html_flow_tag_name ∷ html_flow_basic_self_closing ∷ html_flow_complete_closing_tag_after ∷ html_flow_complete_end ∷ html_flow_complete_attribute_name_before ∷ html_flow_complete_attribute_name ∷ html_flow_complete_attribute_name_after ∷ html_flow_complete_attribute_value_before ∷ html_flow_complete_attribute_value_quoted ∷ html_flow_complete_attribute_value_quoted_after ∷ html_flow_complete_attribute_value_unquoted ∷ html_flow_complete_after
      ∷ html_flow_start ∷ html_flow_continuation ∷ html_flow_continuation_comment_inside ∷ html_flow_continuation_cdata_inside ∷ html_flow_continuation_declaration_inside ∷ html_flow_continuation_raw_tag_open ∷ html_flow_continuation_raw_end_tag ∷ html_flow_continuation_close ∷ html_flow_continuation_before ∷ html_flow_blank_line_before ∷ html_flow_blank_line_inside ∷ html_flow_continuation_after ∷ html_flow_continuation_start
      ∷ flow_before_content ∷ paragraph_start ∷ paragraph_inside ∷ paragraph_line_start ∷ paragraph_line_after ∷ [];
  starts = FlowStart ∷ ContentDefinitionBefore ∷ [];
}
