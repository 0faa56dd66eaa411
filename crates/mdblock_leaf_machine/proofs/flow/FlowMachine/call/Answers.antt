use Rattle.std.proofs.Common.{refl, rules, sym, subst}
use Rattle.mdconstructs_tables.specs.RowInvariant.{begun}
use Rattle.mdconstructs_tables.proofs.Rows.Calls.{callable, did-step, never-called}
use Rattle.mdconstructs_tables.specs.Paragraphs.{CanLinkChunk}
use Rattle.mdconstructs_tables.proofs.Paragraphs.{can-follow}
use Rattle.mdblock_leaf_rows.specs.BlankLine.{blank_line_start}
use Rattle.mdblock_leaf_rows.specs.CodeFenced.{flow_before_raw, raw_flow_look_info, raw_flow_start, raw_flow_sequence_open, raw_flow_info_before, raw_flow_before_sequence_open, raw_flow_info, raw_flow_info_after, raw_flow_meta_before, raw_flow_meta, raw_flow_at_non_lazy_break, raw_flow_close_start, raw_flow_before_sequence_close, raw_flow_sequence_close, raw_flow_after_sequence_close, raw_flow_content_before, raw_flow_content_start, raw_flow_before_content_chunk, raw_flow_content_chunk, raw_flow_after, raw_flow_close_before, raw_flow_close_blank, raw_flow_close_sequence, raw_flow_close_between}
use Rattle.mdblock_leaf_rows.specs.CodeIndented.{code_indented_start, code_indented_at_break, code_indented_further_after, code_indented_inside, code_indented_line_after, code_indented_after, code_indented_further_begin, code_indented_further_start}
use Rattle.mdblock_leaf_rows.specs.Flow.{flow_start, content_definition_before, flow_blank_line_after, flow_after}
use Rattle.mdblock_leaf_rows.specs.HeadingAtx.{flow_before_heading_atx, heading_atx_look_start, heading_atx_look_text, heading_atx_look_blank, heading_atx_look_signs, heading_atx_look_after, heading_atx_start, heading_atx_sequence_open, heading_atx_at_break, heading_atx_before, heading_atx_data}
use Rattle.mdblock_leaf_rows.specs.HeadingEdits.{CanEndHeading}
use Rattle.mdblock_leaf_rows.specs.HeadingSetext.{flow_before_heading_setext, heading_setext_look_after, heading_setext_text_after, heading_setext_start, heading_setext_before, heading_setext_inside, heading_setext_after}
use Rattle.mdblock_leaf_rows.specs.HtmlFlow.{html_flow_start, html_flow_continuation, html_flow_continuation_comment_inside, html_flow_continuation_cdata_inside, html_flow_continuation_declaration_inside, html_flow_continuation_raw_tag_open, html_flow_continuation_raw_end_tag, html_flow_continuation_close, html_flow_continuation_before, html_flow_blank_line_before, html_flow_blank_line_inside, html_flow_continuation_after, html_flow_continuation_start}
use Rattle.mdblock_leaf_rows.specs.HtmlTags.{html_flow_open, html_flow_declaration_open, html_flow_comment_open_inside, html_flow_cdata_open_inside, html_flow_tag_close_start, html_flow_tag_name, html_flow_basic_self_closing, html_flow_complete_closing_tag_after, html_flow_complete_end, html_flow_complete_attribute_name_before, html_flow_complete_attribute_name, html_flow_complete_attribute_name_after, html_flow_complete_attribute_value_before, html_flow_complete_attribute_value_quoted, html_flow_complete_attribute_value_quoted_after, html_flow_complete_attribute_value_unquoted, html_flow_complete_after}
use Rattle.mdblock_leaf_rows.specs.Look.{paragraph_look_start, flow_blank_line_before}
use Rattle.mdblock_leaf_rows.specs.Paragraph.{flow_before_content, paragraph_start, paragraph_inside, paragraph_line_start, paragraph_line_after}
use Rattle.mdblock_leaf_rows.specs.ThematicBreak.{flow_before_thematic_break, thematic_break_before, thematic_break_at_break, thematic_break_sequence}
use Rattle.mdblock_leaf_rows.specs.FlowTable.{flow, unchanged}
use Rattle.mdblock_leaf_machine.proofs.Called.{known-before, known-underline, can-end}
use Rattle.mdblock_leaf_machine.proofs.flow.FlowMachine.call.Goals as goal

pub flow_start-requires : goal.flow_start-requires
flow_start-requires c = callable flow unchanged (λ local. refl) c.args.name flow_start _ _ (search rules) refl c.requires.invariant.holds c.begin.ensures

pub content_definition_before-requires : goal.content_definition_before-requires
content_definition_before-requires c = callable flow unchanged (λ local. refl) c.args.name content_definition_before _ _ (search rules) refl c.requires.invariant.holds c.begin.ensures

pub flow_blank_line_after-requires : goal.flow_blank_line_after-requires
flow_blank_line_after-requires c = callable flow unchanged (λ local. refl) c.args.name flow_blank_line_after _ _ (search rules) refl c.requires.invariant.holds c.begin.ensures

pub flow_after-requires : goal.flow_after-requires
flow_after-requires c = callable flow unchanged (λ local. refl) c.args.name flow_after _ _ (search rules) refl c.requires.invariant.holds c.begin.ensures

pub paragraph_look_start-requires : goal.paragraph_look_start-requires
paragraph_look_start-requires c = callable flow unchanged (λ local. refl) c.args.name paragraph_look_start _ _ (search rules) refl c.requires.invariant.holds c.begin.ensures

pub flow_blank_line_before-requires : goal.flow_blank_line_before-requires
flow_blank_line_before-requires c = callable flow unchanged (λ local. refl) c.args.name flow_blank_line_before _ _ (search rules) refl c.requires.invariant.holds c.begin.ensures

pub blank_line_start-requires : goal.blank_line_start-requires
blank_line_start-requires c = callable flow unchanged (λ local. refl) c.args.name blank_line_start _ _ (search rules) refl c.requires.invariant.holds c.begin.ensures

pub flow_before_thematic_break-requires : goal.flow_before_thematic_break-requires
flow_before_thematic_break-requires c = callable flow unchanged (λ local. refl) c.args.name flow_before_thematic_break _ _ (search rules) refl c.requires.invariant.holds c.begin.ensures

pub thematic_break_before-requires : goal.thematic_break_before-requires
thematic_break_before-requires c = callable flow unchanged (λ local. refl) c.args.name thematic_break_before _ _ (search rules) refl c.requires.invariant.holds c.begin.ensures

pub thematic_break_at_break-requires : goal.thematic_break_at_break-requires
thematic_break_at_break-requires c = callable flow unchanged (λ local. refl) c.args.name thematic_break_at_break _ _ (search rules) refl c.requires.invariant.holds c.begin.ensures

pub thematic_break_sequence-requires : goal.thematic_break_sequence-requires
thematic_break_sequence-requires c = callable flow unchanged (λ local. refl) c.args.name thematic_break_sequence _ _ (search rules) refl c.requires.invariant.holds c.begin.ensures

pub flow_before_heading_atx-requires : goal.flow_before_heading_atx-requires
flow_before_heading_atx-requires c = callable flow unchanged (λ local. refl) c.args.name flow_before_heading_atx _ _ (search rules) refl c.requires.invariant.holds c.begin.ensures

pub heading_atx_look_start-requires : goal.heading_atx_look_start-requires
heading_atx_look_start-requires c = callable flow unchanged (λ local. refl) c.args.name heading_atx_look_start _ _ (search rules) refl c.requires.invariant.holds c.begin.ensures

pub heading_atx_look_text-requires : goal.heading_atx_look_text-requires
heading_atx_look_text-requires c = callable flow unchanged (λ local. refl) c.args.name heading_atx_look_text _ _ (search rules) refl c.requires.invariant.holds c.begin.ensures

pub heading_atx_look_blank-requires : goal.heading_atx_look_blank-requires
heading_atx_look_blank-requires c = callable flow unchanged (λ local. refl) c.args.name heading_atx_look_blank _ _ (search rules) refl c.requires.invariant.holds c.begin.ensures

pub heading_atx_look_signs-requires : goal.heading_atx_look_signs-requires
heading_atx_look_signs-requires c = callable flow unchanged (λ local. refl) c.args.name heading_atx_look_signs _ _ (search rules) refl c.requires.invariant.holds c.begin.ensures

pub heading_atx_look_after-requires : goal.heading_atx_look_after-requires
heading_atx_look_after-requires c = callable flow unchanged (λ local. refl) c.args.name heading_atx_look_after _ _ (search rules) refl c.requires.invariant.holds c.begin.ensures

pub heading_atx_start-requires : goal.heading_atx_start-requires
heading_atx_start-requires c = callable flow unchanged (λ local. refl) c.args.name heading_atx_start _ _ (search rules) refl c.requires.invariant.holds c.begin.ensures

pub heading_atx_sequence_open-requires : goal.heading_atx_sequence_open-requires
heading_atx_sequence_open-requires c = callable flow unchanged (λ local. refl) c.args.name heading_atx_sequence_open _ _ (search rules) refl c.requires.invariant.holds c.begin.ensures

pub heading_atx_at_break-requires : goal.heading_atx_at_break-requires
heading_atx_at_break-requires c = callable flow unchanged (λ local. refl) c.args.name heading_atx_at_break _ _ (search rules) refl c.requires.invariant.holds c.begin.ensures

pub heading_atx_before-requires : goal.heading_atx_before-requires
heading_atx_before-requires c = callable flow unchanged (λ local. refl) c.args.name heading_atx_before _ _ (search rules) refl c.requires.invariant.holds c.begin.ensures

pub heading_atx_data-requires : goal.heading_atx_data-requires
heading_atx_data-requires c = callable flow unchanged (λ local. refl) c.args.name heading_atx_data _ _ (search rules) refl c.requires.invariant.holds c.begin.ensures

pub code_indented_start-requires : goal.code_indented_start-requires
code_indented_start-requires c = callable flow unchanged (λ local. refl) c.args.name code_indented_start _ _ (search rules) refl c.requires.invariant.holds c.begin.ensures

pub code_indented_at_break-requires : goal.code_indented_at_break-requires
code_indented_at_break-requires c = callable flow unchanged (λ local. refl) c.args.name code_indented_at_break _ _ (search rules) refl c.requires.invariant.holds c.begin.ensures

pub code_indented_further_after-requires : goal.code_indented_further_after-requires
code_indented_further_after-requires c = callable flow unchanged (λ local. refl) c.args.name code_indented_further_after _ _ (search rules) refl c.requires.invariant.holds c.begin.ensures

pub code_indented_inside-requires : goal.code_indented_inside-requires
code_indented_inside-requires c = callable flow unchanged (λ local. refl) c.args.name code_indented_inside _ _ (search rules) refl c.requires.invariant.holds c.begin.ensures

pub code_indented_line_after-requires : goal.code_indented_line_after-requires
code_indented_line_after-requires c = callable flow unchanged (λ local. refl) c.args.name code_indented_line_after _ _ (search rules) refl c.requires.invariant.holds c.begin.ensures

pub code_indented_after-requires : goal.code_indented_after-requires
code_indented_after-requires c = callable flow unchanged (λ local. refl) c.args.name code_indented_after _ _ (search rules) refl c.requires.invariant.holds c.begin.ensures

pub code_indented_further_begin-requires : goal.code_indented_further_begin-requires
code_indented_further_begin-requires c = callable flow unchanged (λ local. refl) c.args.name code_indented_further_begin _ _ (search rules) refl c.requires.invariant.holds c.begin.ensures

pub code_indented_further_start-requires : goal.code_indented_further_start-requires
code_indented_further_start-requires c = callable flow unchanged (λ local. refl) c.args.name code_indented_further_start _ _ (search rules) refl c.requires.invariant.holds c.begin.ensures

pub flow_before_raw-requires : goal.flow_before_raw-requires
flow_before_raw-requires c = callable flow unchanged (λ local. refl) c.args.name flow_before_raw _ _ (search rules) refl c.requires.invariant.holds c.begin.ensures

pub raw_flow_look_info-requires : goal.raw_flow_look_info-requires
raw_flow_look_info-requires c = callable flow unchanged (λ local. refl) c.args.name raw_flow_look_info _ _ (search rules) refl c.requires.invariant.holds c.begin.ensures

pub raw_flow_start-requires : goal.raw_flow_start-requires
raw_flow_start-requires c = callable flow unchanged (λ local. refl) c.args.name raw_flow_start _ _ (search rules) refl c.requires.invariant.holds c.begin.ensures

pub raw_flow_sequence_open-requires : goal.raw_flow_sequence_open-requires
raw_flow_sequence_open-requires c = callable flow unchanged (λ local. refl) c.args.name raw_flow_sequence_open _ _ (search rules) refl c.requires.invariant.holds c.begin.ensures

pub raw_flow_info_before-requires : goal.raw_flow_info_before-requires
raw_flow_info_before-requires c = callable flow unchanged (λ local. refl) c.args.name raw_flow_info_before _ _ (search rules) refl c.requires.invariant.holds c.begin.ensures

pub raw_flow_before_sequence_open-requires : goal.raw_flow_before_sequence_open-requires
raw_flow_before_sequence_open-requires c = callable flow unchanged (λ local. refl) c.args.name raw_flow_before_sequence_open _ _ (search rules) refl c.requires.invariant.holds c.begin.ensures

pub raw_flow_info-requires : goal.raw_flow_info-requires
raw_flow_info-requires c = callable flow unchanged (λ local. refl) c.args.name raw_flow_info _ _ (search rules) refl c.requires.invariant.holds c.begin.ensures

pub raw_flow_info_after-requires : goal.raw_flow_info_after-requires
raw_flow_info_after-requires c = callable flow unchanged (λ local. refl) c.args.name raw_flow_info_after _ _ (search rules) refl c.requires.invariant.holds c.begin.ensures

pub raw_flow_meta_before-requires : goal.raw_flow_meta_before-requires
raw_flow_meta_before-requires c = callable flow unchanged (λ local. refl) c.args.name raw_flow_meta_before _ _ (search rules) refl c.requires.invariant.holds c.begin.ensures

pub raw_flow_meta-requires : goal.raw_flow_meta-requires
raw_flow_meta-requires c = callable flow unchanged (λ local. refl) c.args.name raw_flow_meta _ _ (search rules) refl c.requires.invariant.holds c.begin.ensures

pub raw_flow_at_non_lazy_break-requires : goal.raw_flow_at_non_lazy_break-requires
raw_flow_at_non_lazy_break-requires c = callable flow unchanged (λ local. refl) c.args.name raw_flow_at_non_lazy_break _ _ (search rules) refl c.requires.invariant.holds c.begin.ensures

pub raw_flow_close_start-requires : goal.raw_flow_close_start-requires
raw_flow_close_start-requires c = callable flow unchanged (λ local. refl) c.args.name raw_flow_close_start _ _ (search rules) refl c.requires.invariant.holds c.begin.ensures

pub raw_flow_before_sequence_close-requires : goal.raw_flow_before_sequence_close-requires
raw_flow_before_sequence_close-requires c = callable flow unchanged (λ local. refl) c.args.name raw_flow_before_sequence_close _ _ (search rules) refl c.requires.invariant.holds c.begin.ensures

pub raw_flow_sequence_close-requires : goal.raw_flow_sequence_close-requires
raw_flow_sequence_close-requires c = callable flow unchanged (λ local. refl) c.args.name raw_flow_sequence_close _ _ (search rules) refl c.requires.invariant.holds c.begin.ensures

pub raw_flow_after_sequence_close-requires : goal.raw_flow_after_sequence_close-requires
raw_flow_after_sequence_close-requires c = callable flow unchanged (λ local. refl) c.args.name raw_flow_after_sequence_close _ _ (search rules) refl c.requires.invariant.holds c.begin.ensures

pub raw_flow_content_before-requires : goal.raw_flow_content_before-requires
raw_flow_content_before-requires c = callable flow unchanged (λ local. refl) c.args.name raw_flow_content_before _ _ (search rules) refl c.requires.invariant.holds c.begin.ensures

pub raw_flow_content_start-requires : goal.raw_flow_content_start-requires
raw_flow_content_start-requires c = callable flow unchanged (λ local. refl) c.args.name raw_flow_content_start _ _ (search rules) refl c.requires.invariant.holds c.begin.ensures

pub raw_flow_before_content_chunk-requires : goal.raw_flow_before_content_chunk-requires
raw_flow_before_content_chunk-requires c = callable flow unchanged (λ local. refl) c.args.name raw_flow_before_content_chunk _ _ (search rules) refl c.requires.invariant.holds c.begin.ensures

pub raw_flow_content_chunk-requires : goal.raw_flow_content_chunk-requires
raw_flow_content_chunk-requires c = callable flow unchanged (λ local. refl) c.args.name raw_flow_content_chunk _ _ (search rules) refl c.requires.invariant.holds c.begin.ensures

pub raw_flow_after-requires : goal.raw_flow_after-requires
raw_flow_after-requires c = callable flow unchanged (λ local. refl) c.args.name raw_flow_after _ _ (search rules) refl c.requires.invariant.holds c.begin.ensures

pub raw_flow_close_before-requires : goal.raw_flow_close_before-requires
raw_flow_close_before-requires c = callable flow unchanged (λ local. refl) c.args.name raw_flow_close_before _ _ (search rules) refl c.requires.invariant.holds c.begin.ensures

pub raw_flow_close_blank-requires : goal.raw_flow_close_blank-requires
raw_flow_close_blank-requires c = callable flow unchanged (λ local. refl) c.args.name raw_flow_close_blank _ _ (search rules) refl c.requires.invariant.holds c.begin.ensures

pub raw_flow_close_sequence-requires : goal.raw_flow_close_sequence-requires
raw_flow_close_sequence-requires c = callable flow unchanged (λ local. refl) c.args.name raw_flow_close_sequence _ _ (search rules) refl c.requires.invariant.holds c.begin.ensures

pub raw_flow_close_between-requires : goal.raw_flow_close_between-requires
raw_flow_close_between-requires c = callable flow unchanged (λ local. refl) c.args.name raw_flow_close_between _ _ (search rules) refl c.requires.invariant.holds c.begin.ensures

pub flow_before_heading_setext-requires : goal.flow_before_heading_setext-requires
flow_before_heading_setext-requires c = callable flow unchanged (λ local. refl) c.args.name flow_before_heading_setext _ _ (search rules) refl c.requires.invariant.holds c.begin.ensures

pub heading_setext_look_after-requires : goal.heading_setext_look_after-requires
heading_setext_look_after-requires c = callable flow unchanged (λ local. refl) c.args.name heading_setext_look_after _ _ (search rules) refl c.requires.invariant.holds c.begin.ensures

pub heading_setext_text_after-requires : goal.heading_setext_text_after-requires
heading_setext_text_after-requires c = callable flow unchanged (λ local. refl) c.args.name heading_setext_text_after _ _ (search rules) refl c.requires.invariant.holds c.begin.ensures

pub heading_setext_start-requires : goal.heading_setext_start-requires
heading_setext_start-requires c = callable flow unchanged (λ local. refl) c.args.name heading_setext_start _ _ (search rules) refl c.requires.invariant.holds c.begin.ensures

pub heading_setext_before-requires : goal.heading_setext_before-requires
heading_setext_before-requires c = callable flow unchanged (λ local. refl) c.args.name heading_setext_before _ _ (search rules) refl c.requires.invariant.holds c.begin.ensures

pub heading_setext_inside-requires : goal.heading_setext_inside-requires
heading_setext_inside-requires c = callable flow unchanged (λ local. refl) c.args.name heading_setext_inside _ _ (search rules) refl c.requires.invariant.holds c.begin.ensures

pub heading_setext_after-requires : goal.heading_setext_after-requires
heading_setext_after-requires c =
    let t = c.args.t.now in
    record {
      called = callable flow unchanged (λ local. refl) c.args.name heading_setext_after _ _ (search rules) refl c.requires.invariant.holds c.begin.ensures;
      heading = subst (λ u. CanEndHeading u.configuration) (sym c.begin.ensures)
          (can-end (begun unchanged t).configuration (known-underline t.configuration.events t.configuration.local t.choices c.args.name.number (search rules) c.requires.invariant.known));
    }

pub tag_open-requires : goal.tag_open-requires
tag_open-requires c = callable flow unchanged (λ local. refl) c.args.name html_flow_open _ _ (search rules) refl c.requires.invariant.holds c.begin.ensures

pub declaration_open-requires : goal.declaration_open-requires
declaration_open-requires c = callable flow unchanged (λ local. refl) c.args.name html_flow_declaration_open _ _ (search rules) refl c.requires.invariant.holds c.begin.ensures

pub comment_open_inside-requires : goal.comment_open_inside-requires
comment_open_inside-requires c = callable flow unchanged (λ local. refl) c.args.name html_flow_comment_open_inside _ _ (search rules) refl c.requires.invariant.holds c.begin.ensures

pub cdata_open_inside-requires : goal.cdata_open_inside-requires
cdata_open_inside-requires c = callable flow unchanged (λ local. refl) c.args.name html_flow_cdata_open_inside _ _ (search rules) refl c.requires.invariant.holds c.begin.ensures

pub tag_close_start-requires : goal.tag_close_start-requires
tag_close_start-requires c = callable flow unchanged (λ local. refl) c.args.name html_flow_tag_close_start _ _ (search rules) refl c.requires.invariant.holds c.begin.ensures

pub tag_name-requires : goal.tag_name-requires
tag_name-requires c = callable flow unchanged (λ local. refl) c.args.name html_flow_tag_name _ _ (search rules) refl c.requires.invariant.holds c.begin.ensures

pub basic_self_closing-requires : goal.basic_self_closing-requires
basic_self_closing-requires c = callable flow unchanged (λ local. refl) c.args.name html_flow_basic_self_closing _ _ (search rules) refl c.requires.invariant.holds c.begin.ensures

pub closing_tag_after-requires : goal.closing_tag_after-requires
closing_tag_after-requires c = callable flow unchanged (λ local. refl) c.args.name html_flow_complete_closing_tag_after _ _ (search rules) refl c.requires.invariant.holds c.begin.ensures

pub end-requires : goal.end-requires
end-requires c = callable flow unchanged (λ local. refl) c.args.name html_flow_complete_end _ _ (search rules) refl c.requires.invariant.holds c.begin.ensures

pub attribute_name_before-requires : goal.attribute_name_before-requires
attribute_name_before-requires c = callable flow unchanged (λ local. refl) c.args.name html_flow_complete_attribute_name_before _ _ (search rules) refl c.requires.invariant.holds c.begin.ensures

pub attribute_name-requires : goal.attribute_name-requires
attribute_name-requires c = callable flow unchanged (λ local. refl) c.args.name html_flow_complete_attribute_name _ _ (search rules) refl c.requires.invariant.holds c.begin.ensures

pub attribute_name_after-requires : goal.attribute_name_after-requires
attribute_name_after-requires c = callable flow unchanged (λ local. refl) c.args.name html_flow_complete_attribute_name_after _ _ (search rules) refl c.requires.invariant.holds c.begin.ensures

pub attribute_value_before-requires : goal.attribute_value_before-requires
attribute_value_before-requires c = callable flow unchanged (λ local. refl) c.args.name html_flow_complete_attribute_value_before _ _ (search rules) refl c.requires.invariant.holds c.begin.ensures

pub attribute_value_quoted-requires : goal.attribute_value_quoted-requires
attribute_value_quoted-requires c = callable flow unchanged (λ local. refl) c.args.name html_flow_complete_attribute_value_quoted _ _ (search rules) refl c.requires.invariant.holds c.begin.ensures

pub attribute_value_quoted_after-requires : goal.attribute_value_quoted_after-requires
attribute_value_quoted_after-requires c = callable flow unchanged (λ local. refl) c.args.name html_flow_complete_attribute_value_quoted_after _ _ (search rules) refl c.requires.invariant.holds c.begin.ensures

pub attribute_value_unquoted-requires : goal.attribute_value_unquoted-requires
attribute_value_unquoted-requires c = callable flow unchanged (λ local. refl) c.args.name html_flow_complete_attribute_value_unquoted _ _ (search rules) refl c.requires.invariant.holds c.begin.ensures

pub after-requires : goal.after-requires
after-requires c = callable flow unchanged (λ local. refl) c.args.name html_flow_complete_after _ _ (search rules) refl c.requires.invariant.holds c.begin.ensures

pub start-requires : goal.start-requires
start-requires c = callable flow unchanged (λ local. refl) c.args.name html_flow_start _ _ (search rules) refl c.requires.invariant.holds c.begin.ensures

pub continuation-requires : goal.continuation-requires
continuation-requires c = callable flow unchanged (λ local. refl) c.args.name html_flow_continuation _ _ (search rules) refl c.requires.invariant.holds c.begin.ensures

pub continuation_comment_inside-requires : goal.continuation_comment_inside-requires
continuation_comment_inside-requires c = callable flow unchanged (λ local. refl) c.args.name html_flow_continuation_comment_inside _ _ (search rules) refl c.requires.invariant.holds c.begin.ensures

pub continuation_cdata_inside-requires : goal.continuation_cdata_inside-requires
continuation_cdata_inside-requires c = callable flow unchanged (λ local. refl) c.args.name html_flow_continuation_cdata_inside _ _ (search rules) refl c.requires.invariant.holds c.begin.ensures

pub continuation_declaration_inside-requires : goal.continuation_declaration_inside-requires
continuation_declaration_inside-requires c = callable flow unchanged (λ local. refl) c.args.name html_flow_continuation_declaration_inside _ _ (search rules) refl c.requires.invariant.holds c.begin.ensures

pub continuation_raw_tag_open-requires : goal.continuation_raw_tag_open-requires
continuation_raw_tag_open-requires c = callable flow unchanged (λ local. refl) c.args.name html_flow_continuation_raw_tag_open _ _ (search rules) refl c.requires.invariant.holds c.begin.ensures

pub continuation_raw_end_tag-requires : goal.continuation_raw_end_tag-requires
continuation_raw_end_tag-requires c = callable flow unchanged (λ local. refl) c.args.name html_flow_continuation_raw_end_tag _ _ (search rules) refl c.requires.invariant.holds c.begin.ensures

pub continuation_close-requires : goal.continuation_close-requires
continuation_close-requires c = callable flow unchanged (λ local. refl) c.args.name html_flow_continuation_close _ _ (search rules) refl c.requires.invariant.holds c.begin.ensures

pub continuation_before-requires : goal.continuation_before-requires
continuation_before-requires c = callable flow unchanged (λ local. refl) c.args.name html_flow_continuation_before _ _ (search rules) refl c.requires.invariant.holds c.begin.ensures

pub blank_line_before-requires : goal.blank_line_before-requires
blank_line_before-requires c = callable flow unchanged (λ local. refl) c.args.name html_flow_blank_line_before _ _ (search rules) refl c.requires.invariant.holds c.begin.ensures

pub blank_line_inside-requires : goal.blank_line_inside-requires
blank_line_inside-requires c = callable flow unchanged (λ local. refl) c.args.name html_flow_blank_line_inside _ _ (search rules) refl c.requires.invariant.holds c.begin.ensures

pub continuation_after-requires : goal.continuation_after-requires
continuation_after-requires c = callable flow unchanged (λ local. refl) c.args.name html_flow_continuation_after _ _ (search rules) refl c.requires.invariant.holds c.begin.ensures

pub continuation_start-requires : goal.continuation_start-requires
continuation_start-requires c = callable flow unchanged (λ local. refl) c.args.name html_flow_continuation_start _ _ (search rules) refl c.requires.invariant.holds c.begin.ensures

pub flow_before_content-requires : goal.flow_before_content-requires
flow_before_content-requires c = callable flow unchanged (λ local. refl) c.args.name flow_before_content _ _ (search rules) refl c.requires.invariant.holds c.begin.ensures

pub paragraph_start-requires : goal.paragraph_start-requires
paragraph_start-requires c =
    let t = c.args.t.now in
    record {
      called = callable flow unchanged (λ local. refl) c.args.name paragraph_start _ _ (search rules) refl c.requires.invariant.holds c.begin.ensures;
      chunk = subst CanLinkChunk (sym c.begin.ensures)
          (can-follow (begun unchanged t) (known-before t.configuration.events t.configuration.local t.choices c.args.name.number (search rules) c.requires.invariant.known));
    }

pub paragraph_inside-requires : goal.paragraph_inside-requires
paragraph_inside-requires c = callable flow unchanged (λ local. refl) c.args.name paragraph_inside _ _ (search rules) refl c.requires.invariant.holds c.begin.ensures

pub paragraph_line_start-requires : goal.paragraph_line_start-requires
paragraph_line_start-requires c = callable flow unchanged (λ local. refl) c.args.name paragraph_line_start _ _ (search rules) refl c.requires.invariant.holds c.begin.ensures

pub paragraph_line_after-requires : goal.paragraph_line_after-requires
paragraph_line_after-requires c = callable flow unchanged (λ local. refl) c.args.name paragraph_line_after _ _ (search rules) refl c.requires.invariant.holds c.begin.ensures

pub unreachable-requires : goal.unreachable-requires
unreachable-requires c = never-called flow c.args.name c.args.t.now (search rules) c.requires.invariant.holds

pub returns-in-FlowStart : goal.returns-in-FlowStart
returns-in-FlowStart c = record { call_is_step = did-step flow c.args.name flow_start _ _ _ _ (search rules) refl c.begin.ensures c.flow_start.ensures }

pub returns-in-ContentDefinitionBefore : goal.returns-in-ContentDefinitionBefore
returns-in-ContentDefinitionBefore c = record { call_is_step = did-step flow c.args.name content_definition_before _ _ _ _ (search rules) refl c.begin.ensures c.content_definition_before.ensures }

pub returns-in-FlowBlankLineAfter : goal.returns-in-FlowBlankLineAfter
returns-in-FlowBlankLineAfter c = record { call_is_step = did-step flow c.args.name flow_blank_line_after _ _ _ _ (search rules) refl c.begin.ensures c.flow_blank_line_after.ensures }

pub returns-in-FlowAfter : goal.returns-in-FlowAfter
returns-in-FlowAfter c = record { call_is_step = did-step flow c.args.name flow_after _ _ _ _ (search rules) refl c.begin.ensures c.flow_after.ensures }

pub returns-in-ParagraphLookStart : goal.returns-in-ParagraphLookStart
returns-in-ParagraphLookStart c = record { call_is_step = did-step flow c.args.name paragraph_look_start _ _ _ _ (search rules) refl c.begin.ensures c.paragraph_look_start.ensures }

pub returns-in-FlowBlankLineBefore : goal.returns-in-FlowBlankLineBefore
returns-in-FlowBlankLineBefore c = record { call_is_step = did-step flow c.args.name flow_blank_line_before _ _ _ _ (search rules) refl c.begin.ensures c.flow_blank_line_before.ensures }

pub returns-in-BlankLineStart : goal.returns-in-BlankLineStart
returns-in-BlankLineStart c = record { call_is_step = did-step flow c.args.name blank_line_start _ _ _ _ (search rules) refl c.begin.ensures c.blank_line_start.ensures }

pub returns-in-FlowBeforeThematicBreak : goal.returns-in-FlowBeforeThematicBreak
returns-in-FlowBeforeThematicBreak c = record { call_is_step = did-step flow c.args.name flow_before_thematic_break _ _ _ _ (search rules) refl c.begin.ensures c.flow_before_thematic_break.ensures }

pub returns-in-ThematicBreakBefore : goal.returns-in-ThematicBreakBefore
returns-in-ThematicBreakBefore c = record { call_is_step = did-step flow c.args.name thematic_break_before _ _ _ _ (search rules) refl c.begin.ensures c.thematic_break_before.ensures }

pub returns-in-ThematicBreakAtBreak : goal.returns-in-ThematicBreakAtBreak
returns-in-ThematicBreakAtBreak c = record { call_is_step = did-step flow c.args.name thematic_break_at_break _ _ _ _ (search rules) refl c.begin.ensures c.thematic_break_at_break.ensures }

pub returns-in-ThematicBreakSequence : goal.returns-in-ThematicBreakSequence
returns-in-ThematicBreakSequence c = record { call_is_step = did-step flow c.args.name thematic_break_sequence _ _ _ _ (search rules) refl c.begin.ensures c.thematic_break_sequence.ensures }

pub returns-in-FlowBeforeHeadingAtx : goal.returns-in-FlowBeforeHeadingAtx
returns-in-FlowBeforeHeadingAtx c = record { call_is_step = did-step flow c.args.name flow_before_heading_atx _ _ _ _ (search rules) refl c.begin.ensures c.flow_before_heading_atx.ensures }

pub returns-in-HeadingAtxLookStart : goal.returns-in-HeadingAtxLookStart
returns-in-HeadingAtxLookStart c = record { call_is_step = did-step flow c.args.name heading_atx_look_start _ _ _ _ (search rules) refl c.begin.ensures c.heading_atx_look_start.ensures }

pub returns-in-HeadingAtxLookText : goal.returns-in-HeadingAtxLookText
returns-in-HeadingAtxLookText c = record { call_is_step = did-step flow c.args.name heading_atx_look_text _ _ _ _ (search rules) refl c.begin.ensures c.heading_atx_look_text.ensures }

pub returns-in-HeadingAtxLookBlank : goal.returns-in-HeadingAtxLookBlank
returns-in-HeadingAtxLookBlank c = record { call_is_step = did-step flow c.args.name heading_atx_look_blank _ _ _ _ (search rules) refl c.begin.ensures c.heading_atx_look_blank.ensures }

pub returns-in-HeadingAtxLookSigns : goal.returns-in-HeadingAtxLookSigns
returns-in-HeadingAtxLookSigns c = record { call_is_step = did-step flow c.args.name heading_atx_look_signs _ _ _ _ (search rules) refl c.begin.ensures c.heading_atx_look_signs.ensures }

pub returns-in-HeadingAtxLookAfter : goal.returns-in-HeadingAtxLookAfter
returns-in-HeadingAtxLookAfter c = record { call_is_step = did-step flow c.args.name heading_atx_look_after _ _ _ _ (search rules) refl c.begin.ensures c.heading_atx_look_after.ensures }

pub returns-in-HeadingAtxStart : goal.returns-in-HeadingAtxStart
returns-in-HeadingAtxStart c = record { call_is_step = did-step flow c.args.name heading_atx_start _ _ _ _ (search rules) refl c.begin.ensures c.heading_atx_start.ensures }

pub returns-in-HeadingAtxSequenceOpen : goal.returns-in-HeadingAtxSequenceOpen
returns-in-HeadingAtxSequenceOpen c = record { call_is_step = did-step flow c.args.name heading_atx_sequence_open _ _ _ _ (search rules) refl c.begin.ensures c.heading_atx_sequence_open.ensures }

pub returns-in-HeadingAtxAtBreak : goal.returns-in-HeadingAtxAtBreak
returns-in-HeadingAtxAtBreak c = record { call_is_step = did-step flow c.args.name heading_atx_at_break _ _ _ _ (search rules) refl c.begin.ensures c.heading_atx_at_break.ensures }

pub returns-in-HeadingAtxBefore : goal.returns-in-HeadingAtxBefore
returns-in-HeadingAtxBefore c = record { call_is_step = did-step flow c.args.name heading_atx_before _ _ _ _ (search rules) refl c.begin.ensures c.heading_atx_before.ensures }

pub returns-in-HeadingAtxData : goal.returns-in-HeadingAtxData
returns-in-HeadingAtxData c = record { call_is_step = did-step flow c.args.name heading_atx_data _ _ _ _ (search rules) refl c.begin.ensures c.heading_atx_data.ensures }

pub returns-in-FlowBeforeHeadingSetext : goal.returns-in-FlowBeforeHeadingSetext
returns-in-FlowBeforeHeadingSetext c = record { call_is_step = did-step flow c.args.name flow_before_heading_setext _ _ _ _ (search rules) refl c.begin.ensures c.flow_before_heading_setext.ensures }

pub returns-in-HeadingSetextLookAfter : goal.returns-in-HeadingSetextLookAfter
returns-in-HeadingSetextLookAfter c = record { call_is_step = did-step flow c.args.name heading_setext_look_after _ _ _ _ (search rules) refl c.begin.ensures c.heading_setext_look_after.ensures }

pub returns-in-HeadingSetextTextAfter : goal.returns-in-HeadingSetextTextAfter
returns-in-HeadingSetextTextAfter c = record { call_is_step = did-step flow c.args.name heading_setext_text_after _ _ _ _ (search rules) refl c.begin.ensures c.heading_setext_text_after.ensures }

pub returns-in-HeadingSetextStart : goal.returns-in-HeadingSetextStart
returns-in-HeadingSetextStart c = record { call_is_step = did-step flow c.args.name heading_setext_start _ _ _ _ (search rules) refl c.begin.ensures c.heading_setext_start.ensures }

pub returns-in-HeadingSetextBefore : goal.returns-in-HeadingSetextBefore
returns-in-HeadingSetextBefore c = record { call_is_step = did-step flow c.args.name heading_setext_before _ _ _ _ (search rules) refl c.begin.ensures c.heading_setext_before.ensures }

pub returns-in-HeadingSetextInside : goal.returns-in-HeadingSetextInside
returns-in-HeadingSetextInside c = record { call_is_step = did-step flow c.args.name heading_setext_inside _ _ _ _ (search rules) refl c.begin.ensures c.heading_setext_inside.ensures }

pub returns-in-HeadingSetextAfter : goal.returns-in-HeadingSetextAfter
returns-in-HeadingSetextAfter c = record { call_is_step = did-step flow c.args.name heading_setext_after _ _ _ _ (search rules) refl c.begin.ensures c.heading_setext_after.ensures }

pub returns-in-CodeIndentedStart : goal.returns-in-CodeIndentedStart
returns-in-CodeIndentedStart c = record { call_is_step = did-step flow c.args.name code_indented_start _ _ _ _ (search rules) refl c.begin.ensures c.code_indented_start.ensures }

pub returns-in-CodeIndentedAtBreak : goal.returns-in-CodeIndentedAtBreak
returns-in-CodeIndentedAtBreak c = record { call_is_step = did-step flow c.args.name code_indented_at_break _ _ _ _ (search rules) refl c.begin.ensures c.code_indented_at_break.ensures }

pub returns-in-CodeIndentedFurtherAfter : goal.returns-in-CodeIndentedFurtherAfter
returns-in-CodeIndentedFurtherAfter c = record { call_is_step = did-step flow c.args.name code_indented_further_after _ _ _ _ (search rules) refl c.begin.ensures c.code_indented_further_after.ensures }

pub returns-in-CodeIndentedInside : goal.returns-in-CodeIndentedInside
returns-in-CodeIndentedInside c = record { call_is_step = did-step flow c.args.name code_indented_inside _ _ _ _ (search rules) refl c.begin.ensures c.code_indented_inside.ensures }

pub returns-in-CodeIndentedLineAfter : goal.returns-in-CodeIndentedLineAfter
returns-in-CodeIndentedLineAfter c = record { call_is_step = did-step flow c.args.name code_indented_line_after _ _ _ _ (search rules) refl c.begin.ensures c.code_indented_line_after.ensures }

pub returns-in-CodeIndentedAfter : goal.returns-in-CodeIndentedAfter
returns-in-CodeIndentedAfter c = record { call_is_step = did-step flow c.args.name code_indented_after _ _ _ _ (search rules) refl c.begin.ensures c.code_indented_after.ensures }

pub returns-in-CodeIndentedFurtherBegin : goal.returns-in-CodeIndentedFurtherBegin
returns-in-CodeIndentedFurtherBegin c = record { call_is_step = did-step flow c.args.name code_indented_further_begin _ _ _ _ (search rules) refl c.begin.ensures c.code_indented_further_begin.ensures }

pub returns-in-CodeIndentedFurtherStart : goal.returns-in-CodeIndentedFurtherStart
returns-in-CodeIndentedFurtherStart c = record { call_is_step = did-step flow c.args.name code_indented_further_start _ _ _ _ (search rules) refl c.begin.ensures c.code_indented_further_start.ensures }

pub returns-in-FlowBeforeRaw : goal.returns-in-FlowBeforeRaw
returns-in-FlowBeforeRaw c = record { call_is_step = did-step flow c.args.name flow_before_raw _ _ _ _ (search rules) refl c.begin.ensures c.flow_before_raw.ensures }

pub returns-in-RawFlowLookInfo : goal.returns-in-RawFlowLookInfo
returns-in-RawFlowLookInfo c = record { call_is_step = did-step flow c.args.name raw_flow_look_info _ _ _ _ (search rules) refl c.begin.ensures c.raw_flow_look_info.ensures }

pub returns-in-RawFlowStart : goal.returns-in-RawFlowStart
returns-in-RawFlowStart c = record { call_is_step = did-step flow c.args.name raw_flow_start _ _ _ _ (search rules) refl c.begin.ensures c.raw_flow_start.ensures }

pub returns-in-RawFlowSequenceOpen : goal.returns-in-RawFlowSequenceOpen
returns-in-RawFlowSequenceOpen c = record { call_is_step = did-step flow c.args.name raw_flow_sequence_open _ _ _ _ (search rules) refl c.begin.ensures c.raw_flow_sequence_open.ensures }

pub returns-in-RawFlowInfoBefore : goal.returns-in-RawFlowInfoBefore
returns-in-RawFlowInfoBefore c = record { call_is_step = did-step flow c.args.name raw_flow_info_before _ _ _ _ (search rules) refl c.begin.ensures c.raw_flow_info_before.ensures }

pub returns-in-RawFlowBeforeSequenceOpen : goal.returns-in-RawFlowBeforeSequenceOpen
returns-in-RawFlowBeforeSequenceOpen c = record { call_is_step = did-step flow c.args.name raw_flow_before_sequence_open _ _ _ _ (search rules) refl c.begin.ensures c.raw_flow_before_sequence_open.ensures }

pub returns-in-RawFlowInfo : goal.returns-in-RawFlowInfo
returns-in-RawFlowInfo c = record { call_is_step = did-step flow c.args.name raw_flow_info _ _ _ _ (search rules) refl c.begin.ensures c.raw_flow_info.ensures }

pub returns-in-RawFlowInfoAfter : goal.returns-in-RawFlowInfoAfter
returns-in-RawFlowInfoAfter c = record { call_is_step = did-step flow c.args.name raw_flow_info_after _ _ _ _ (search rules) refl c.begin.ensures c.raw_flow_info_after.ensures }

pub returns-in-RawFlowMetaBefore : goal.returns-in-RawFlowMetaBefore
returns-in-RawFlowMetaBefore c = record { call_is_step = did-step flow c.args.name raw_flow_meta_before _ _ _ _ (search rules) refl c.begin.ensures c.raw_flow_meta_before.ensures }

pub returns-in-RawFlowMeta : goal.returns-in-RawFlowMeta
returns-in-RawFlowMeta c = record { call_is_step = did-step flow c.args.name raw_flow_meta _ _ _ _ (search rules) refl c.begin.ensures c.raw_flow_meta.ensures }

pub returns-in-RawFlowAtNonLazyBreak : goal.returns-in-RawFlowAtNonLazyBreak
returns-in-RawFlowAtNonLazyBreak c = record { call_is_step = did-step flow c.args.name raw_flow_at_non_lazy_break _ _ _ _ (search rules) refl c.begin.ensures c.raw_flow_at_non_lazy_break.ensures }

pub returns-in-RawFlowCloseStart : goal.returns-in-RawFlowCloseStart
returns-in-RawFlowCloseStart c = record { call_is_step = did-step flow c.args.name raw_flow_close_start _ _ _ _ (search rules) refl c.begin.ensures c.raw_flow_close_start.ensures }

pub returns-in-RawFlowBeforeSequenceClose : goal.returns-in-RawFlowBeforeSequenceClose
returns-in-RawFlowBeforeSequenceClose c = record { call_is_step = did-step flow c.args.name raw_flow_before_sequence_close _ _ _ _ (search rules) refl c.begin.ensures c.raw_flow_before_sequence_close.ensures }

pub returns-in-RawFlowSequenceClose : goal.returns-in-RawFlowSequenceClose
returns-in-RawFlowSequenceClose c = record { call_is_step = did-step flow c.args.name raw_flow_sequence_close _ _ _ _ (search rules) refl c.begin.ensures c.raw_flow_sequence_close.ensures }

pub returns-in-RawFlowAfterSequenceClose : goal.returns-in-RawFlowAfterSequenceClose
returns-in-RawFlowAfterSequenceClose c = record { call_is_step = did-step flow c.args.name raw_flow_after_sequence_close _ _ _ _ (search rules) refl c.begin.ensures c.raw_flow_after_sequence_close.ensures }

pub returns-in-RawFlowContentBefore : goal.returns-in-RawFlowContentBefore
returns-in-RawFlowContentBefore c = record { call_is_step = did-step flow c.args.name raw_flow_content_before _ _ _ _ (search rules) refl c.begin.ensures c.raw_flow_content_before.ensures }

pub returns-in-RawFlowContentStart : goal.returns-in-RawFlowContentStart
returns-in-RawFlowContentStart c = record { call_is_step = did-step flow c.args.name raw_flow_content_start _ _ _ _ (search rules) refl c.begin.ensures c.raw_flow_content_start.ensures }

pub returns-in-RawFlowBeforeContentChunk : goal.returns-in-RawFlowBeforeContentChunk
returns-in-RawFlowBeforeContentChunk c = record { call_is_step = did-step flow c.args.name raw_flow_before_content_chunk _ _ _ _ (search rules) refl c.begin.ensures c.raw_flow_before_content_chunk.ensures }

pub returns-in-RawFlowContentChunk : goal.returns-in-RawFlowContentChunk
returns-in-RawFlowContentChunk c = record { call_is_step = did-step flow c.args.name raw_flow_content_chunk _ _ _ _ (search rules) refl c.begin.ensures c.raw_flow_content_chunk.ensures }

pub returns-in-RawFlowAfter : goal.returns-in-RawFlowAfter
returns-in-RawFlowAfter c = record { call_is_step = did-step flow c.args.name raw_flow_after _ _ _ _ (search rules) refl c.begin.ensures c.raw_flow_after.ensures }

pub returns-in-RawFlowCloseBefore : goal.returns-in-RawFlowCloseBefore
returns-in-RawFlowCloseBefore c = record { call_is_step = did-step flow c.args.name raw_flow_close_before _ _ _ _ (search rules) refl c.begin.ensures c.raw_flow_close_before.ensures }

pub returns-in-RawFlowCloseBlank : goal.returns-in-RawFlowCloseBlank
returns-in-RawFlowCloseBlank c = record { call_is_step = did-step flow c.args.name raw_flow_close_blank _ _ _ _ (search rules) refl c.begin.ensures c.raw_flow_close_blank.ensures }

pub returns-in-RawFlowCloseSequence : goal.returns-in-RawFlowCloseSequence
returns-in-RawFlowCloseSequence c = record { call_is_step = did-step flow c.args.name raw_flow_close_sequence _ _ _ _ (search rules) refl c.begin.ensures c.raw_flow_close_sequence.ensures }

pub returns-in-RawFlowCloseBetween : goal.returns-in-RawFlowCloseBetween
returns-in-RawFlowCloseBetween c = record { call_is_step = did-step flow c.args.name raw_flow_close_between _ _ _ _ (search rules) refl c.begin.ensures c.raw_flow_close_between.ensures }

pub returns-in-HtmlFlowOpen : goal.returns-in-HtmlFlowOpen
returns-in-HtmlFlowOpen c = record { call_is_step = did-step flow c.args.name html_flow_open _ _ _ _ (search rules) refl c.begin.ensures c.tag_open.ensures }

pub returns-in-HtmlFlowDeclarationOpen : goal.returns-in-HtmlFlowDeclarationOpen
returns-in-HtmlFlowDeclarationOpen c = record { call_is_step = did-step flow c.args.name html_flow_declaration_open _ _ _ _ (search rules) refl c.begin.ensures c.declaration_open.ensures }

pub returns-in-HtmlFlowCommentOpenInside : goal.returns-in-HtmlFlowCommentOpenInside
returns-in-HtmlFlowCommentOpenInside c = record { call_is_step = did-step flow c.args.name html_flow_comment_open_inside _ _ _ _ (search rules) refl c.begin.ensures c.comment_open_inside.ensures }

pub returns-in-HtmlFlowCdataOpenInside : goal.returns-in-HtmlFlowCdataOpenInside
returns-in-HtmlFlowCdataOpenInside c = record { call_is_step = did-step flow c.args.name html_flow_cdata_open_inside _ _ _ _ (search rules) refl c.begin.ensures c.cdata_open_inside.ensures }

pub returns-in-HtmlFlowTagCloseStart : goal.returns-in-HtmlFlowTagCloseStart
returns-in-HtmlFlowTagCloseStart c = record { call_is_step = did-step flow c.args.name html_flow_tag_close_start _ _ _ _ (search rules) refl c.begin.ensures c.tag_close_start.ensures }

pub returns-in-HtmlFlowTagName : goal.returns-in-HtmlFlowTagName
returns-in-HtmlFlowTagName c = record { call_is_step = did-step flow c.args.name html_flow_tag_name _ _ _ _ (search rules) refl c.begin.ensures c.tag_name.ensures }

pub returns-in-HtmlFlowBasicSelfClosing : goal.returns-in-HtmlFlowBasicSelfClosing
returns-in-HtmlFlowBasicSelfClosing c = record { call_is_step = did-step flow c.args.name html_flow_basic_self_closing _ _ _ _ (search rules) refl c.begin.ensures c.basic_self_closing.ensures }

pub returns-in-HtmlFlowCompleteClosingTagAfter : goal.returns-in-HtmlFlowCompleteClosingTagAfter
returns-in-HtmlFlowCompleteClosingTagAfter c = record { call_is_step = did-step flow c.args.name html_flow_complete_closing_tag_after _ _ _ _ (search rules) refl c.begin.ensures c.closing_tag_after.ensures }

pub returns-in-HtmlFlowCompleteEnd : goal.returns-in-HtmlFlowCompleteEnd
returns-in-HtmlFlowCompleteEnd c = record { call_is_step = did-step flow c.args.name html_flow_complete_end _ _ _ _ (search rules) refl c.begin.ensures c.end.ensures }

pub returns-in-HtmlFlowCompleteAttributeNameBefore : goal.returns-in-HtmlFlowCompleteAttributeNameBefore
returns-in-HtmlFlowCompleteAttributeNameBefore c = record { call_is_step = did-step flow c.args.name html_flow_complete_attribute_name_before _ _ _ _ (search rules) refl c.begin.ensures c.attribute_name_before.ensures }

pub returns-in-HtmlFlowCompleteAttributeName : goal.returns-in-HtmlFlowCompleteAttributeName
returns-in-HtmlFlowCompleteAttributeName c = record { call_is_step = did-step flow c.args.name html_flow_complete_attribute_name _ _ _ _ (search rules) refl c.begin.ensures c.attribute_name.ensures }

pub returns-in-HtmlFlowCompleteAttributeNameAfter : goal.returns-in-HtmlFlowCompleteAttributeNameAfter
returns-in-HtmlFlowCompleteAttributeNameAfter c = record { call_is_step = did-step flow c.args.name html_flow_complete_attribute_name_after _ _ _ _ (search rules) refl c.begin.ensures c.attribute_name_after.ensures }

pub returns-in-HtmlFlowCompleteAttributeValueBefore : goal.returns-in-HtmlFlowCompleteAttributeValueBefore
returns-in-HtmlFlowCompleteAttributeValueBefore c = record { call_is_step = did-step flow c.args.name html_flow_complete_attribute_value_before _ _ _ _ (search rules) refl c.begin.ensures c.attribute_value_before.ensures }

pub returns-in-HtmlFlowCompleteAttributeValueQuoted : goal.returns-in-HtmlFlowCompleteAttributeValueQuoted
returns-in-HtmlFlowCompleteAttributeValueQuoted c = record { call_is_step = did-step flow c.args.name html_flow_complete_attribute_value_quoted _ _ _ _ (search rules) refl c.begin.ensures c.attribute_value_quoted.ensures }

pub returns-in-HtmlFlowCompleteAttributeValueQuotedAfter : goal.returns-in-HtmlFlowCompleteAttributeValueQuotedAfter
returns-in-HtmlFlowCompleteAttributeValueQuotedAfter c = record { call_is_step = did-step flow c.args.name html_flow_complete_attribute_value_quoted_after _ _ _ _ (search rules) refl c.begin.ensures c.attribute_value_quoted_after.ensures }

pub returns-in-HtmlFlowCompleteAttributeValueUnquoted : goal.returns-in-HtmlFlowCompleteAttributeValueUnquoted
returns-in-HtmlFlowCompleteAttributeValueUnquoted c = record { call_is_step = did-step flow c.args.name html_flow_complete_attribute_value_unquoted _ _ _ _ (search rules) refl c.begin.ensures c.attribute_value_unquoted.ensures }

pub returns-in-HtmlFlowCompleteAfter : goal.returns-in-HtmlFlowCompleteAfter
returns-in-HtmlFlowCompleteAfter c = record { call_is_step = did-step flow c.args.name html_flow_complete_after _ _ _ _ (search rules) refl c.begin.ensures c.after.ensures }

pub returns-in-HtmlFlowStart : goal.returns-in-HtmlFlowStart
returns-in-HtmlFlowStart c = record { call_is_step = did-step flow c.args.name html_flow_start _ _ _ _ (search rules) refl c.begin.ensures c.start.ensures }

pub returns-in-HtmlFlowContinuation : goal.returns-in-HtmlFlowContinuation
returns-in-HtmlFlowContinuation c = record { call_is_step = did-step flow c.args.name html_flow_continuation _ _ _ _ (search rules) refl c.begin.ensures c.continuation.ensures }

pub returns-in-HtmlFlowContinuationCommentInside : goal.returns-in-HtmlFlowContinuationCommentInside
returns-in-HtmlFlowContinuationCommentInside c = record { call_is_step = did-step flow c.args.name html_flow_continuation_comment_inside _ _ _ _ (search rules) refl c.begin.ensures c.continuation_comment_inside.ensures }

pub returns-in-HtmlFlowContinuationCdataInside : goal.returns-in-HtmlFlowContinuationCdataInside
returns-in-HtmlFlowContinuationCdataInside c = record { call_is_step = did-step flow c.args.name html_flow_continuation_cdata_inside _ _ _ _ (search rules) refl c.begin.ensures c.continuation_cdata_inside.ensures }

pub returns-in-HtmlFlowContinuationDeclarationInside : goal.returns-in-HtmlFlowContinuationDeclarationInside
returns-in-HtmlFlowContinuationDeclarationInside c = record { call_is_step = did-step flow c.args.name html_flow_continuation_declaration_inside _ _ _ _ (search rules) refl c.begin.ensures c.continuation_declaration_inside.ensures }

pub returns-in-HtmlFlowContinuationRawTagOpen : goal.returns-in-HtmlFlowContinuationRawTagOpen
returns-in-HtmlFlowContinuationRawTagOpen c = record { call_is_step = did-step flow c.args.name html_flow_continuation_raw_tag_open _ _ _ _ (search rules) refl c.begin.ensures c.continuation_raw_tag_open.ensures }

pub returns-in-HtmlFlowContinuationRawEndTag : goal.returns-in-HtmlFlowContinuationRawEndTag
returns-in-HtmlFlowContinuationRawEndTag c = record { call_is_step = did-step flow c.args.name html_flow_continuation_raw_end_tag _ _ _ _ (search rules) refl c.begin.ensures c.continuation_raw_end_tag.ensures }

pub returns-in-HtmlFlowContinuationClose : goal.returns-in-HtmlFlowContinuationClose
returns-in-HtmlFlowContinuationClose c = record { call_is_step = did-step flow c.args.name html_flow_continuation_close _ _ _ _ (search rules) refl c.begin.ensures c.continuation_close.ensures }

pub returns-in-HtmlFlowContinuationBefore : goal.returns-in-HtmlFlowContinuationBefore
returns-in-HtmlFlowContinuationBefore c = record { call_is_step = did-step flow c.args.name html_flow_continuation_before _ _ _ _ (search rules) refl c.begin.ensures c.continuation_before.ensures }

pub returns-in-HtmlFlowBlankLineBefore : goal.returns-in-HtmlFlowBlankLineBefore
returns-in-HtmlFlowBlankLineBefore c = record { call_is_step = did-step flow c.args.name html_flow_blank_line_before _ _ _ _ (search rules) refl c.begin.ensures c.blank_line_before.ensures }

pub returns-in-HtmlFlowBlankLineInside : goal.returns-in-HtmlFlowBlankLineInside
returns-in-HtmlFlowBlankLineInside c = record { call_is_step = did-step flow c.args.name html_flow_blank_line_inside _ _ _ _ (search rules) refl c.begin.ensures c.blank_line_inside.ensures }

pub returns-in-HtmlFlowContinuationAfter : goal.returns-in-HtmlFlowContinuationAfter
returns-in-HtmlFlowContinuationAfter c = record { call_is_step = did-step flow c.args.name html_flow_continuation_after _ _ _ _ (search rules) refl c.begin.ensures c.continuation_after.ensures }

pub returns-in-HtmlFlowContinuationStart : goal.returns-in-HtmlFlowContinuationStart
returns-in-HtmlFlowContinuationStart c = record { call_is_step = did-step flow c.args.name html_flow_continuation_start _ _ _ _ (search rules) refl c.begin.ensures c.continuation_start.ensures }

pub returns-in-FlowBeforeContent : goal.returns-in-FlowBeforeContent
returns-in-FlowBeforeContent c = record { call_is_step = did-step flow c.args.name flow_before_content _ _ _ _ (search rules) refl c.begin.ensures c.flow_before_content.ensures }

pub returns-in-ParagraphStart : goal.returns-in-ParagraphStart
returns-in-ParagraphStart c = record { call_is_step = did-step flow c.args.name paragraph_start _ _ _ _ (search rules) refl c.begin.ensures c.paragraph_start.ensures }

pub returns-in-ParagraphInside : goal.returns-in-ParagraphInside
returns-in-ParagraphInside c = record { call_is_step = did-step flow c.args.name paragraph_inside _ _ _ _ (search rules) refl c.begin.ensures c.paragraph_inside.ensures }

pub returns-in-ParagraphLineStart : goal.returns-in-ParagraphLineStart
returns-in-ParagraphLineStart c = record { call_is_step = did-step flow c.args.name paragraph_line_start _ _ _ _ (search rules) refl c.begin.ensures c.paragraph_line_start.ensures }

pub returns-in-ParagraphLineAfter : goal.returns-in-ParagraphLineAfter
returns-in-ParagraphLineAfter c = record { call_is_step = did-step flow c.args.name paragraph_line_after _ _ _ _ (search rules) refl c.begin.ensures c.paragraph_line_after.ensures }
