-- The table of leaf blocks passes the test: no state is a misfit, and its costs are enough.
use Rattle.std.proofs.Common.{Bool, false, Some, None, refl}
use Rattle.markdown_base.specs.declared.state.Name.{Name}
use Rattle.mdconstructs_tables.specs.Fitting.{HasNoMisfits, IsFitBy}
use Rattle.mdconstructs_tables.specs.RowTest.{never}
use Rattle.mdblock_leaf_rows.specs.FlowBytes.{line_feed, blank, sign, star, underscore, dash, equals, tick, tilde, less, greater, slash, bang, question, opening, closing, double, single, colon, dot, letter, digit, other}
use Rattle.mdblock_leaf_rows.specs.FlowTable.{flow}
use Rattle.mdblock_leaf_rows.specs.Laws.BlankLine.{blank_line_start-pays}
use Rattle.mdblock_leaf_rows.specs.Laws.CodeFenced.{flow_before_raw-pays, raw_flow_look_info-pays, raw_flow_start-pays, raw_flow_sequence_open-pays, raw_flow_info_before-pays, raw_flow_before_sequence_open-pays, raw_flow_info-pays, raw_flow_info_after-pays, raw_flow_meta_before-pays, raw_flow_meta-pays, raw_flow_at_non_lazy_break-pays, raw_flow_close_start-pays, raw_flow_before_sequence_close-pays, raw_flow_sequence_close-pays, raw_flow_after_sequence_close-pays, raw_flow_content_before-pays, raw_flow_content_start-pays, raw_flow_before_content_chunk-pays, raw_flow_content_chunk-pays, raw_flow_after-pays, raw_flow_close_before-pays, raw_flow_close_blank-pays, raw_flow_close_sequence-pays, raw_flow_close_between-pays}
use Rattle.mdblock_leaf_rows.specs.Laws.CodeIndented.{code_indented_start-pays, code_indented_at_break-pays, code_indented_further_after-pays, code_indented_inside-pays, code_indented_further_start-pays, code_indented_line_after-pays, code_indented_after-pays, code_indented_further_begin-pays}
use Rattle.mdblock_leaf_rows.specs.Laws.Flow.{flow_start-pays, content_definition_before-pays, flow_blank_line_after-pays, flow_after-pays}
use Rattle.mdblock_leaf_rows.specs.Laws.HeadingAtx.{flow_before_heading_atx-pays, heading_atx_look_start-pays, heading_atx_look_text-pays, heading_atx_look_blank-pays, heading_atx_look_signs-pays, heading_atx_look_after-pays, heading_atx_start-pays, heading_atx_sequence_open-pays, heading_atx_at_break-pays, heading_atx_before-pays, heading_atx_data-pays}
use Rattle.mdblock_leaf_rows.specs.Laws.HeadingSetext.{flow_before_heading_setext-pays, heading_setext_look_after-pays, heading_setext_text_after-pays, heading_setext_start-pays, heading_setext_before-pays, heading_setext_inside-pays, heading_setext_after-pays}
use Rattle.mdblock_leaf_rows.specs.Laws.HtmlFlow.{html_flow_start-pays, html_flow_continuation-pays, html_flow_continuation_comment_inside-pays, html_flow_continuation_cdata_inside-pays, html_flow_continuation_declaration_inside-pays, html_flow_continuation_raw_tag_open-pays, html_flow_continuation_raw_end_tag-pays, html_flow_continuation_close-pays, html_flow_continuation_before-pays, html_flow_blank_line_before-pays, html_flow_blank_line_inside-pays, html_flow_continuation_after-pays, html_flow_continuation_start-pays}
use Rattle.mdblock_leaf_rows.specs.Laws.HtmlTags.{html_flow_open-pays, html_flow_declaration_open-pays, html_flow_comment_open_inside-pays, html_flow_cdata_open_inside-pays, html_flow_tag_close_start-pays, html_flow_tag_name-pays, html_flow_basic_self_closing-pays, html_flow_complete_closing_tag_after-pays, html_flow_complete_end-pays, html_flow_complete_attribute_name_before-pays, html_flow_complete_attribute_name-pays, html_flow_complete_attribute_name_after-pays, html_flow_complete_attribute_value_before-pays, html_flow_complete_attribute_value_quoted-pays, html_flow_complete_attribute_value_quoted_after-pays, html_flow_complete_attribute_value_unquoted-pays, html_flow_complete_after-pays}
use Rattle.mdblock_leaf_rows.specs.Laws.Look.{flow_blank_line_before-pays, paragraph_look_start-pays}
use Rattle.mdblock_leaf_rows.specs.Laws.Paragraph.{flow_before_content-pays, paragraph_start-pays, paragraph_inside-pays, paragraph_line_start-pays, paragraph_line_after-pays}
use Rattle.mdblock_leaf_rows.specs.Laws.ThematicBreak.{flow_before_thematic_break-pays, thematic_break_before-pays, thematic_break_at_break-pays, thematic_break_sequence-pays}

pub fits : HasNoMisfits flow
fits previous None = refl
fits previous (Some line_feed) = refl
fits previous (Some blank) = refl
fits previous (Some sign) = refl
fits previous (Some star) = refl
fits previous (Some underscore) = refl
fits previous (Some dash) = refl
fits previous (Some equals) = refl
fits previous (Some tick) = refl
fits previous (Some tilde) = refl
fits previous (Some less) = refl
fits previous (Some greater) = refl
fits previous (Some slash) = refl
fits previous (Some bang) = refl
fits previous (Some question) = refl
fits previous (Some opening) = refl
fits previous (Some closing) = refl
fits previous (Some double) = refl
fits previous (Some single) = refl
fits previous (Some colon) = refl
fits previous (Some dot) = refl
fits previous (Some (letter byte)) = refl
fits previous (Some (digit byte)) = refl
fits previous (Some other) = refl

-- no state has to cost less later: all choices are checks, which go back to where they were made
abbrev pub none : Name → Bool
none name = false

pub flow-fit : IsFitBy flow never none
flow-fit = record {
  fits = fits;
  paid = (flow_start-pays, (content_definition_before-pays, (flow_blank_line_after-pays, (flow_after-pays, (flow_blank_line_before-pays, (paragraph_look_start-pays, (blank_line_start-pays, (flow_before_thematic_break-pays, (thematic_break_before-pays, (thematic_break_at_break-pays, (thematic_break_sequence-pays, (flow_before_heading_atx-pays, (heading_atx_look_start-pays, (heading_atx_look_text-pays, (heading_atx_look_blank-pays, (heading_atx_look_signs-pays, (heading_atx_look_after-pays, (heading_atx_start-pays, (heading_atx_sequence_open-pays, (heading_atx_at_break-pays, (heading_atx_before-pays, (heading_atx_data-pays, (code_indented_start-pays, (code_indented_at_break-pays, (code_indented_further_after-pays, (code_indented_inside-pays, (code_indented_further_start-pays, (code_indented_line_after-pays, (code_indented_after-pays, (code_indented_further_begin-pays, (flow_before_raw-pays, (raw_flow_look_info-pays, (raw_flow_start-pays, (raw_flow_sequence_open-pays, (raw_flow_info_before-pays, (raw_flow_before_sequence_open-pays, (raw_flow_info-pays, (raw_flow_info_after-pays, (raw_flow_meta_before-pays, (raw_flow_meta-pays, (raw_flow_at_non_lazy_break-pays, (raw_flow_close_start-pays, (raw_flow_before_sequence_close-pays, (raw_flow_sequence_close-pays, (raw_flow_after_sequence_close-pays, (raw_flow_content_before-pays, (raw_flow_content_start-pays, (raw_flow_before_content_chunk-pays, (raw_flow_content_chunk-pays, (raw_flow_after-pays, (raw_flow_close_before-pays, (raw_flow_close_blank-pays, (raw_flow_close_sequence-pays, (raw_flow_close_between-pays, (flow_before_heading_setext-pays, (heading_setext_look_after-pays, (heading_setext_text_after-pays, (heading_setext_start-pays, (heading_setext_before-pays, (heading_setext_inside-pays, (heading_setext_after-pays, (html_flow_open-pays, (html_flow_declaration_open-pays, (html_flow_comment_open_inside-pays, (html_flow_cdata_open_inside-pays, (html_flow_tag_close_start-pays, (html_flow_tag_name-pays, (html_flow_basic_self_closing-pays, (html_flow_complete_closing_tag_after-pays, (html_flow_complete_end-pays, (html_flow_complete_attribute_name_before-pays, (html_flow_complete_attribute_name-pays, (html_flow_complete_attribute_name_after-pays, (html_flow_complete_attribute_value_before-pays, (html_flow_complete_attribute_value_quoted-pays, (html_flow_complete_attribute_value_quoted_after-pays, (html_flow_complete_attribute_value_unquoted-pays, (html_flow_complete_after-pays, (html_flow_start-pays, (html_flow_continuation-pays, (html_flow_continuation_comment_inside-pays, (html_flow_continuation_cdata_inside-pays, (html_flow_continuation_declaration_inside-pays, (html_flow_continuation_raw_tag_open-pays, (html_flow_continuation_raw_end_tag-pays, (html_flow_continuation_close-pays, (html_flow_continuation_before-pays, (html_flow_blank_line_before-pays, (html_flow_blank_line_inside-pays, (html_flow_continuation_after-pays, (html_flow_continuation_start-pays, (flow_before_content-pays, (paragraph_start-pays, (paragraph_inside-pays, (paragraph_line_start-pays, (paragraph_line_after-pays, tt))))))))))))))))))))))))))))))))))))))))))))))))))))))))))))))))))))))))))))))))))))))))))))))));
  falls = tt;
  kept = λ local. refl;
}
