use Rattle.mdinline_machine.proofs.Prelude.{refl, rules, callable, never-called, autolink_start, autolink_open, autolink_scheme, autolink_url, raw_text_start, raw_text_data, raw_text_sequence_close, raw_text_after, raw_text_backticks_inside, escape_start, escape_inside, by_left, text_byte, text_cost, text_before_data, data_at_break, email_start, email_atext, email_label, email_value, cdata_open, comment_open, declaration_open, mark_close, mark_inside, mark_line, mark_open, mark_start, mark_white, html_text_start, html_text_open, html_text_tag_close_start, html_text_tag_close, html_text_tag_close_between, html_text_tag_open, html_text_tag_open_between, html_text_attribute_name, html_text_attribute_name_after, html_text_value_before, html_text_value_quoted, html_text_value_quoted_after, html_text_value_unquoted, html_text_end, html_line_ending_after, html_line_ending_after_prefix, break_escape_start, break_escape_after, code_line, code_white, remembered_between, remembered_chunk, remembered_open, reference_start, reference_open, reference_numeric, reference_value, string_start, string_before, string_before_data, attention_start, attention_inside, inline_start, line_start, line_white, inline_before, before_hard_break_escape, before_email, before_html, before_tag, inline_data, text_space, text_spaces, text_white, data_space, data_spaces, data_white, at_data_break, inlines}
use Rattle.mdinline_labels.specs.Defined.{defines}
use Rattle.mdconstructs_tables.specs.Over.{unchanged}
use Rattle.mdconstructs_tables.proofs.Rows.Calls.{did-step}
use Rattle.mdinline_machine.proofs.Priced.{at-any-cost}
use Rattle.mdinline_link_tails.specs.ResourceRows.{resource_start, resource_before, gap_white, gap_line, gap_line_white, resource_open, enclosed_before, enclosed, enclosed_escape, destination_end, raw, raw_escape, destination_after, title_start, title_begin, title_inside, title_escape, title_line, title_white, title_end, resource_end}
use Rattle.mdinline_full_references.specs.FullReferenceRows.{label_end, label_escape, label_inside, label_line, label_start, label_white, reference_start as full_reference_start}
use Rattle.mdinline_machine.specs.BracketRows.{collapsed_open, collapsed_start, end_after, link_start, image_start, image_open, end_start, end_ok, end_nok, label_is_wanted, not_full, not_resource, reference_end}
use Rattle.mdinline_machine.specs.StringTable.{string_data}
use Rattle.mdinline_machine.proofs.inlines.InlinesMachine.call.Goals as goal

pub inline_start-requires : goal.inline_start-requires
inline_start-requires c = callable (inlines (defines c.args.self.now.labels)) unchanged (λ local. refl) c.args.name inline_start _ _ (search rules) refl c.requires.invariant.holds c.begin.ensures

pub inline_before-requires : goal.inline_before-requires
inline_before-requires c = callable (inlines (defines c.args.self.now.labels)) unchanged (λ local. refl) c.args.name inline_before _ _ (search rules) refl c.requires.invariant.holds c.begin.ensures

pub text_before_data-requires : goal.text_before_data-requires
text_before_data-requires c = at-any-cost text_byte text_before_data (text_cost (by_left 4 13 0)) _ (callable (inlines (defines c.args.self.now.labels)) unchanged (λ local. refl) c.args.name (record text_before_data { cost = text_cost (by_left 4 13 0) }) _ _ (search rules) refl c.requires.invariant.holds c.begin.ensures)

pub data_at_break-requires : goal.data_at_break-requires
data_at_break-requires c = at-any-cost text_byte data_at_break (text_cost at_data_break) _ (callable (inlines (defines c.args.self.now.labels)) unchanged (λ local. refl) c.args.name (record data_at_break { cost = text_cost at_data_break }) _ _ (search rules) refl c.requires.invariant.holds c.begin.ensures)

pub inline_data-requires : goal.inline_data-requires
inline_data-requires c = callable (inlines (defines c.args.self.now.labels)) unchanged (λ local. refl) c.args.name inline_data _ _ (search rules) refl c.requires.invariant.holds c.begin.ensures

pub text_space-requires : goal.text_space-requires
text_space-requires c = callable (inlines (defines c.args.self.now.labels)) unchanged (λ local. refl) c.args.name text_space _ _ (search rules) refl c.requires.invariant.holds c.begin.ensures

pub text_spaces-requires : goal.text_spaces-requires
text_spaces-requires c = callable (inlines (defines c.args.self.now.labels)) unchanged (λ local. refl) c.args.name text_spaces _ _ (search rules) refl c.requires.invariant.holds c.begin.ensures

pub text_white-requires : goal.text_white-requires
text_white-requires c = callable (inlines (defines c.args.self.now.labels)) unchanged (λ local. refl) c.args.name text_white _ _ (search rules) refl c.requires.invariant.holds c.begin.ensures

pub data_space-requires : goal.data_space-requires
data_space-requires c = callable (inlines (defines c.args.self.now.labels)) unchanged (λ local. refl) c.args.name data_space _ _ (search rules) refl c.requires.invariant.holds c.begin.ensures

pub data_spaces-requires : goal.data_spaces-requires
data_spaces-requires c = callable (inlines (defines c.args.self.now.labels)) unchanged (λ local. refl) c.args.name data_spaces _ _ (search rules) refl c.requires.invariant.holds c.begin.ensures

pub data_white-requires : goal.data_white-requires
data_white-requires c = callable (inlines (defines c.args.self.now.labels)) unchanged (λ local. refl) c.args.name data_white _ _ (search rules) refl c.requires.invariant.holds c.begin.ensures

pub attention_start-requires : goal.attention_start-requires
attention_start-requires c = callable (inlines (defines c.args.self.now.labels)) unchanged (λ local. refl) c.args.name attention_start _ _ (search rules) refl c.requires.invariant.holds c.begin.ensures

pub attention_inside-requires : goal.attention_inside-requires
attention_inside-requires c = callable (inlines (defines c.args.self.now.labels)) unchanged (λ local. refl) c.args.name attention_inside _ _ (search rules) refl c.requires.invariant.holds c.begin.ensures

pub raw_text_start-requires : goal.raw_text_start-requires
raw_text_start-requires c = callable (inlines (defines c.args.self.now.labels)) unchanged (λ local. refl) c.args.name raw_text_start _ _ (search rules) refl c.requires.invariant.holds c.begin.ensures

pub remembered_open-requires : goal.remembered_open-requires
remembered_open-requires c = callable (inlines (defines c.args.self.now.labels)) unchanged (λ local. refl) c.args.name remembered_open _ _ (search rules) refl c.requires.invariant.holds c.begin.ensures

pub remembered_between-requires : goal.remembered_between-requires
remembered_between-requires c = callable (inlines (defines c.args.self.now.labels)) unchanged (λ local. refl) c.args.name remembered_between _ _ (search rules) refl c.requires.invariant.holds c.begin.ensures

pub code_line-requires : goal.code_line-requires
code_line-requires c = callable (inlines (defines c.args.self.now.labels)) unchanged (λ local. refl) c.args.name code_line _ _ (search rules) refl c.requires.invariant.holds c.begin.ensures

pub code_white-requires : goal.code_white-requires
code_white-requires c = callable (inlines (defines c.args.self.now.labels)) unchanged (λ local. refl) c.args.name code_white _ _ (search rules) refl c.requires.invariant.holds c.begin.ensures

pub raw_text_data-requires : goal.raw_text_data-requires
raw_text_data-requires c = callable (inlines (defines c.args.self.now.labels)) unchanged (λ local. refl) c.args.name raw_text_data _ _ (search rules) refl c.requires.invariant.holds c.begin.ensures

pub raw_text_sequence_close-requires : goal.raw_text_sequence_close-requires
raw_text_sequence_close-requires c = callable (inlines (defines c.args.self.now.labels)) unchanged (λ local. refl) c.args.name raw_text_sequence_close _ _ (search rules) refl c.requires.invariant.holds c.begin.ensures

pub raw_text_after-requires : goal.raw_text_after-requires
raw_text_after-requires c = callable (inlines (defines c.args.self.now.labels)) unchanged (λ local. refl) c.args.name raw_text_after _ _ (search rules) refl c.requires.invariant.holds c.begin.ensures

pub remembered_chunk-requires : goal.remembered_chunk-requires
remembered_chunk-requires c = callable (inlines (defines c.args.self.now.labels)) unchanged (λ local. refl) c.args.name remembered_chunk _ _ (search rules) refl c.requires.invariant.holds c.begin.ensures

pub raw_text_backticks_inside-requires : goal.raw_text_backticks_inside-requires
raw_text_backticks_inside-requires c = callable (inlines (defines c.args.self.now.labels)) unchanged (λ local. refl) c.args.name raw_text_backticks_inside _ _ (search rules) refl c.requires.invariant.holds c.begin.ensures

pub autolink_start-requires : goal.autolink_start-requires
autolink_start-requires c = callable (inlines (defines c.args.self.now.labels)) unchanged (λ local. refl) c.args.name autolink_start _ _ (search rules) refl c.requires.invariant.holds c.begin.ensures

pub autolink_open-requires : goal.autolink_open-requires
autolink_open-requires c = callable (inlines (defines c.args.self.now.labels)) unchanged (λ local. refl) c.args.name autolink_open _ _ (search rules) refl c.requires.invariant.holds c.begin.ensures

pub autolink_scheme-requires : goal.autolink_scheme-requires
autolink_scheme-requires c = callable (inlines (defines c.args.self.now.labels)) unchanged (λ local. refl) c.args.name autolink_scheme _ _ (search rules) refl c.requires.invariant.holds c.begin.ensures

pub autolink_url-requires : goal.autolink_url-requires
autolink_url-requires c = callable (inlines (defines c.args.self.now.labels)) unchanged (λ local. refl) c.args.name autolink_url _ _ (search rules) refl c.requires.invariant.holds c.begin.ensures

pub escape_start-requires : goal.escape_start-requires
escape_start-requires c = callable (inlines (defines c.args.self.now.labels)) unchanged (λ local. refl) c.args.name escape_start _ _ (search rules) refl c.requires.invariant.holds c.begin.ensures

pub escape_inside-requires : goal.escape_inside-requires
escape_inside-requires c = callable (inlines (defines c.args.self.now.labels)) unchanged (λ local. refl) c.args.name escape_inside _ _ (search rules) refl c.requires.invariant.holds c.begin.ensures

pub line_start-requires : goal.line_start-requires
line_start-requires c = callable (inlines (defines c.args.self.now.labels)) unchanged (λ local. refl) c.args.name line_start _ _ (search rules) refl c.requires.invariant.holds c.begin.ensures

pub line_white-requires : goal.line_white-requires
line_white-requires c = callable (inlines (defines c.args.self.now.labels)) unchanged (λ local. refl) c.args.name line_white _ _ (search rules) refl c.requires.invariant.holds c.begin.ensures

pub before_hard_break_escape-requires : goal.before_hard_break_escape-requires
before_hard_break_escape-requires c = callable (inlines (defines c.args.self.now.labels)) unchanged (λ local. refl) c.args.name before_hard_break_escape _ _ (search rules) refl c.requires.invariant.holds c.begin.ensures

pub break_escape_start-requires : goal.break_escape_start-requires
break_escape_start-requires c = callable (inlines (defines c.args.self.now.labels)) unchanged (λ local. refl) c.args.name break_escape_start _ _ (search rules) refl c.requires.invariant.holds c.begin.ensures

pub break_escape_after-requires : goal.break_escape_after-requires
break_escape_after-requires c = callable (inlines (defines c.args.self.now.labels)) unchanged (λ local. refl) c.args.name break_escape_after _ _ (search rules) refl c.requires.invariant.holds c.begin.ensures

pub string_start-requires : goal.string_start-requires
string_start-requires c = callable (inlines (defines c.args.self.now.labels)) unchanged (λ local. refl) c.args.name string_start _ _ (search rules) refl c.requires.invariant.holds c.begin.ensures

pub string_before-requires : goal.string_before-requires
string_before-requires c = callable (inlines (defines c.args.self.now.labels)) unchanged (λ local. refl) c.args.name string_before _ _ (search rules) refl c.requires.invariant.holds c.begin.ensures

pub string_before_data-requires : goal.string_before_data-requires
string_before_data-requires c = callable (inlines (defines c.args.self.now.labels)) unchanged (λ local. refl) c.args.name string_before_data _ _ (search rules) refl c.requires.invariant.holds c.begin.ensures

pub string_data-requires : goal.string_data-requires
string_data-requires c = callable (inlines (defines c.args.self.now.labels)) unchanged (λ local. refl) c.args.name string_data _ _ (search rules) refl c.requires.invariant.holds c.begin.ensures

pub reference_open-requires : goal.reference_open-requires
reference_open-requires c = callable (inlines (defines c.args.self.now.labels)) unchanged (λ local. refl) c.args.name reference_open _ _ (search rules) refl c.requires.invariant.holds c.begin.ensures

pub reference_numeric-requires : goal.reference_numeric-requires
reference_numeric-requires c = callable (inlines (defines c.args.self.now.labels)) unchanged (λ local. refl) c.args.name reference_numeric _ _ (search rules) refl c.requires.invariant.holds c.begin.ensures

pub reference_value-requires : goal.reference_value-requires
reference_value-requires c = callable (inlines (defines c.args.self.now.labels)) unchanged (λ local. refl) c.args.name reference_value _ _ (search rules) refl c.requires.invariant.holds c.begin.ensures

pub before_email-requires : goal.before_email-requires
before_email-requires c = callable (inlines (defines c.args.self.now.labels)) unchanged (λ local. refl) c.args.name before_email _ _ (search rules) refl c.requires.invariant.holds c.begin.ensures

pub before_html-requires : goal.before_html-requires
before_html-requires c = callable (inlines (defines c.args.self.now.labels)) unchanged (λ local. refl) c.args.name before_html _ _ (search rules) refl c.requires.invariant.holds c.begin.ensures

pub email_start-requires : goal.email_start-requires
email_start-requires c = callable (inlines (defines c.args.self.now.labels)) unchanged (λ local. refl) c.args.name email_start _ _ (search rules) refl c.requires.invariant.holds c.begin.ensures

pub email_atext-requires : goal.email_atext-requires
email_atext-requires c = callable (inlines (defines c.args.self.now.labels)) unchanged (λ local. refl) c.args.name email_atext _ _ (search rules) refl c.requires.invariant.holds c.begin.ensures

pub email_label-requires : goal.email_label-requires
email_label-requires c = callable (inlines (defines c.args.self.now.labels)) unchanged (λ local. refl) c.args.name email_label _ _ (search rules) refl c.requires.invariant.holds c.begin.ensures

pub email_value-requires : goal.email_value-requires
email_value-requires c = callable (inlines (defines c.args.self.now.labels)) unchanged (λ local. refl) c.args.name email_value _ _ (search rules) refl c.requires.invariant.holds c.begin.ensures

pub html_text_start-requires : goal.html_text_start-requires
html_text_start-requires c = callable (inlines (defines c.args.self.now.labels)) unchanged (λ local. refl) c.args.name html_text_start _ _ (search rules) refl c.requires.invariant.holds c.begin.ensures

pub html_text_open-requires : goal.html_text_open-requires
html_text_open-requires c = callable (inlines (defines c.args.self.now.labels)) unchanged (λ local. refl) c.args.name html_text_open _ _ (search rules) refl c.requires.invariant.holds c.begin.ensures

pub html_text_tag_close_start-requires : goal.html_text_tag_close_start-requires
html_text_tag_close_start-requires c = callable (inlines (defines c.args.self.now.labels)) unchanged (λ local. refl) c.args.name html_text_tag_close_start _ _ (search rules) refl c.requires.invariant.holds c.begin.ensures

pub html_text_tag_close-requires : goal.html_text_tag_close-requires
html_text_tag_close-requires c = callable (inlines (defines c.args.self.now.labels)) unchanged (λ local. refl) c.args.name html_text_tag_close _ _ (search rules) refl c.requires.invariant.holds c.begin.ensures

pub html_text_tag_close_between-requires : goal.html_text_tag_close_between-requires
html_text_tag_close_between-requires c = callable (inlines (defines c.args.self.now.labels)) unchanged (λ local. refl) c.args.name html_text_tag_close_between _ _ (search rules) refl c.requires.invariant.holds c.begin.ensures

pub html_text_tag_open-requires : goal.html_text_tag_open-requires
html_text_tag_open-requires c = callable (inlines (defines c.args.self.now.labels)) unchanged (λ local. refl) c.args.name html_text_tag_open _ _ (search rules) refl c.requires.invariant.holds c.begin.ensures

pub html_text_tag_open_between-requires : goal.html_text_tag_open_between-requires
html_text_tag_open_between-requires c = callable (inlines (defines c.args.self.now.labels)) unchanged (λ local. refl) c.args.name html_text_tag_open_between _ _ (search rules) refl c.requires.invariant.holds c.begin.ensures

pub html_text_attribute_name-requires : goal.html_text_attribute_name-requires
html_text_attribute_name-requires c = callable (inlines (defines c.args.self.now.labels)) unchanged (λ local. refl) c.args.name html_text_attribute_name _ _ (search rules) refl c.requires.invariant.holds c.begin.ensures

pub html_text_attribute_name_after-requires : goal.html_text_attribute_name_after-requires
html_text_attribute_name_after-requires c = callable (inlines (defines c.args.self.now.labels)) unchanged (λ local. refl) c.args.name html_text_attribute_name_after _ _ (search rules) refl c.requires.invariant.holds c.begin.ensures

pub html_text_value_before-requires : goal.html_text_value_before-requires
html_text_value_before-requires c = callable (inlines (defines c.args.self.now.labels)) unchanged (λ local. refl) c.args.name html_text_value_before _ _ (search rules) refl c.requires.invariant.holds c.begin.ensures

pub html_text_value_quoted-requires : goal.html_text_value_quoted-requires
html_text_value_quoted-requires c = callable (inlines (defines c.args.self.now.labels)) unchanged (λ local. refl) c.args.name html_text_value_quoted _ _ (search rules) refl c.requires.invariant.holds c.begin.ensures

pub html_text_value_quoted_after-requires : goal.html_text_value_quoted_after-requires
html_text_value_quoted_after-requires c = callable (inlines (defines c.args.self.now.labels)) unchanged (λ local. refl) c.args.name html_text_value_quoted_after _ _ (search rules) refl c.requires.invariant.holds c.begin.ensures

pub html_text_value_unquoted-requires : goal.html_text_value_unquoted-requires
html_text_value_unquoted-requires c = callable (inlines (defines c.args.self.now.labels)) unchanged (λ local. refl) c.args.name html_text_value_unquoted _ _ (search rules) refl c.requires.invariant.holds c.begin.ensures

pub html_text_end-requires : goal.html_text_end-requires
html_text_end-requires c = callable (inlines (defines c.args.self.now.labels)) unchanged (λ local. refl) c.args.name html_text_end _ _ (search rules) refl c.requires.invariant.holds c.begin.ensures

pub html_line_ending_after-requires : goal.html_line_ending_after-requires
html_line_ending_after-requires c = callable (inlines (defines c.args.self.now.labels)) unchanged (λ local. refl) c.args.name html_line_ending_after _ _ (search rules) refl c.requires.invariant.holds c.begin.ensures

pub html_line_ending_after_prefix-requires : goal.html_line_ending_after_prefix-requires
html_line_ending_after_prefix-requires c = callable (inlines (defines c.args.self.now.labels)) unchanged (λ local. refl) c.args.name html_line_ending_after_prefix _ _ (search rules) refl c.requires.invariant.holds c.begin.ensures

pub before_tag-requires : goal.before_tag-requires
before_tag-requires c = callable (inlines (defines c.args.self.now.labels)) unchanged (λ local. refl) c.args.name before_tag _ _ (search rules) refl c.requires.invariant.holds c.begin.ensures

pub mark_start-requires : goal.mark_start-requires
mark_start-requires c = callable (inlines (defines c.args.self.now.labels)) unchanged (λ local. refl) c.args.name mark_start _ _ (search rules) refl c.requires.invariant.holds c.begin.ensures

pub mark_open-requires : goal.mark_open-requires
mark_open-requires c = callable (inlines (defines c.args.self.now.labels)) unchanged (λ local. refl) c.args.name mark_open _ _ (search rules) refl c.requires.invariant.holds c.begin.ensures

pub declaration_open-requires : goal.declaration_open-requires
declaration_open-requires c = callable (inlines (defines c.args.self.now.labels)) unchanged (λ local. refl) c.args.name declaration_open _ _ (search rules) refl c.requires.invariant.holds c.begin.ensures

pub comment_open-requires : goal.comment_open-requires
comment_open-requires c = callable (inlines (defines c.args.self.now.labels)) unchanged (λ local. refl) c.args.name comment_open _ _ (search rules) refl c.requires.invariant.holds c.begin.ensures

pub cdata_open-requires : goal.cdata_open-requires
cdata_open-requires c = callable (inlines (defines c.args.self.now.labels)) unchanged (λ local. refl) c.args.name cdata_open _ _ (search rules) refl c.requires.invariant.holds c.begin.ensures

pub mark_inside-requires : goal.mark_inside-requires
mark_inside-requires c = callable (inlines (defines c.args.self.now.labels)) unchanged (λ local. refl) c.args.name mark_inside _ _ (search rules) refl c.requires.invariant.holds c.begin.ensures

pub mark_close-requires : goal.mark_close-requires
mark_close-requires c = callable (inlines (defines c.args.self.now.labels)) unchanged (λ local. refl) c.args.name mark_close _ _ (search rules) refl c.requires.invariant.holds c.begin.ensures

pub mark_line-requires : goal.mark_line-requires
mark_line-requires c = callable (inlines (defines c.args.self.now.labels)) unchanged (λ local. refl) c.args.name mark_line _ _ (search rules) refl c.requires.invariant.holds c.begin.ensures

pub mark_white-requires : goal.mark_white-requires
mark_white-requires c = callable (inlines (defines c.args.self.now.labels)) unchanged (λ local. refl) c.args.name mark_white _ _ (search rules) refl c.requires.invariant.holds c.begin.ensures

pub not_resource-requires : goal.not_resource-requires
not_resource-requires c = callable (inlines (defines c.args.self.now.labels)) unchanged (λ local. refl) c.args.name not_resource _ _ (search rules) refl c.requires.invariant.holds c.begin.ensures

pub reference_end-requires : goal.reference_end-requires
reference_end-requires c = callable (inlines (defines c.args.self.now.labels)) unchanged (λ local. refl) c.args.name reference_end _ _ (search rules) refl c.requires.invariant.holds c.begin.ensures

pub reference_start-requires : goal.reference_start-requires
reference_start-requires c = callable (inlines (defines c.args.self.now.labels)) unchanged (λ local. refl) c.args.name full_reference_start _ _ (search rules) refl c.requires.invariant.holds c.begin.ensures

pub label_start-requires : goal.label_start-requires
label_start-requires c = callable (inlines (defines c.args.self.now.labels)) unchanged (λ local. refl) c.args.name label_start _ _ (search rules) refl c.requires.invariant.holds c.begin.ensures

pub label_inside-requires : goal.label_inside-requires
label_inside-requires c = callable (inlines (defines c.args.self.now.labels)) unchanged (λ local. refl) c.args.name label_inside _ _ (search rules) refl c.requires.invariant.holds c.begin.ensures

pub label_escape-requires : goal.label_escape-requires
label_escape-requires c = callable (inlines (defines c.args.self.now.labels)) unchanged (λ local. refl) c.args.name label_escape _ _ (search rules) refl c.requires.invariant.holds c.begin.ensures

pub label_line-requires : goal.label_line-requires
label_line-requires c = callable (inlines (defines c.args.self.now.labels)) unchanged (λ local. refl) c.args.name label_line _ _ (search rules) refl c.requires.invariant.holds c.begin.ensures

pub label_white-requires : goal.label_white-requires
label_white-requires c = callable (inlines (defines c.args.self.now.labels)) unchanged (λ local. refl) c.args.name label_white _ _ (search rules) refl c.requires.invariant.holds c.begin.ensures

pub wanted_label_end-requires : goal.wanted_label_end-requires
wanted_label_end-requires c = callable (inlines (defines c.args.self.now.labels)) unchanged (λ local. refl) c.args.name (label_end (label_is_wanted (defines c.args.self.now.labels))) _ _ (search rules) refl c.requires.invariant.holds c.begin.ensures

pub not_full-requires : goal.not_full-requires
not_full-requires c = callable (inlines (defines c.args.self.now.labels)) unchanged (λ local. refl) c.args.name (not_full (defines c.args.self.now.labels)) _ _ (search rules) refl c.requires.invariant.holds c.begin.ensures

pub end_after-requires : goal.end_after-requires
end_after-requires c = callable (inlines (defines c.args.self.now.labels)) unchanged (λ local. refl) c.args.name end_after _ _ (search rules) refl c.requires.invariant.holds c.begin.ensures

pub collapsed_start-requires : goal.collapsed_start-requires
collapsed_start-requires c = callable (inlines (defines c.args.self.now.labels)) unchanged (λ local. refl) c.args.name collapsed_start _ _ (search rules) refl c.requires.invariant.holds c.begin.ensures

pub collapsed_open-requires : goal.collapsed_open-requires
collapsed_open-requires c = callable (inlines (defines c.args.self.now.labels)) unchanged (λ local. refl) c.args.name collapsed_open _ _ (search rules) refl c.requires.invariant.holds c.begin.ensures

pub reference_start-requires-in-CharacterReferenceStart : goal.reference_start-requires-in-CharacterReferenceStart
reference_start-requires-in-CharacterReferenceStart c = callable (inlines (defines c.args.self.now.labels)) unchanged (λ local. refl) c.args.name reference_start _ _ (search rules) refl c.requires.invariant.holds c.begin.ensures

pub unreachable-requires : goal.unreachable-requires
unreachable-requires c = never-called (inlines (defines c.args.self.now.labels)) c.args.name c.args.t.now (search rules) c.requires.invariant.holds

pub returns-in-StringBefore : goal.returns-in-StringBefore
returns-in-StringBefore c = record { call_is_step = did-step (inlines (defines c.args.self.now.labels)) c.args.name string_before _ _ _ _ (search rules) refl c.begin.ensures c.string_before.ensures }

pub returns-in-DataStart : goal.returns-in-DataStart
returns-in-DataStart c = record { call_is_step = did-step (inlines (defines c.args.self.now.labels)) c.args.name string_data _ _ _ _ (search rules) refl c.begin.ensures c.string_data.ensures }

pub returns-in-TextLineStart : goal.returns-in-TextLineStart
returns-in-TextLineStart c = record { call_is_step = did-step (inlines (defines c.args.self.now.labels)) c.args.name line_start _ _ _ _ (search rules) refl c.begin.ensures c.line_start.ensures }

pub returns-in-TextLineWhite : goal.returns-in-TextLineWhite
returns-in-TextLineWhite c = record { call_is_step = did-step (inlines (defines c.args.self.now.labels)) c.args.name line_white _ _ _ _ (search rules) refl c.begin.ensures c.line_white.ensures }

pub returns-in-TextBefore : goal.returns-in-TextBefore
returns-in-TextBefore c = record { call_is_step = did-step (inlines (defines c.args.self.now.labels)) c.args.name inline_before _ _ _ _ (search rules) refl c.begin.ensures c.inline_before.ensures }

pub returns-in-TextBeforeData : goal.returns-in-TextBeforeData
returns-in-TextBeforeData c = record { call_is_step = did-step (inlines (defines c.args.self.now.labels)) c.args.name (record text_before_data { cost = text_cost (by_left 4 13 0) }) _ _ _ _ (search rules) refl c.begin.ensures c.text_before_data.ensures }

pub returns-in-DataAtBreak : goal.returns-in-DataAtBreak
returns-in-DataAtBreak c = record { call_is_step = did-step (inlines (defines c.args.self.now.labels)) c.args.name (record data_at_break { cost = text_cost at_data_break }) _ _ _ _ (search rules) refl c.begin.ensures c.data_at_break.ensures }

pub returns-in-DataInside : goal.returns-in-DataInside
returns-in-DataInside c = record { call_is_step = did-step (inlines (defines c.args.self.now.labels)) c.args.name inline_data _ _ _ _ (search rules) refl c.begin.ensures c.inline_data.ensures }

pub returns-in-TextSpace : goal.returns-in-TextSpace
returns-in-TextSpace c = record { call_is_step = did-step (inlines (defines c.args.self.now.labels)) c.args.name text_space _ _ _ _ (search rules) refl c.begin.ensures c.text_space.ensures }

pub returns-in-TextSpaces : goal.returns-in-TextSpaces
returns-in-TextSpaces c = record { call_is_step = did-step (inlines (defines c.args.self.now.labels)) c.args.name text_spaces _ _ _ _ (search rules) refl c.begin.ensures c.text_spaces.ensures }

pub returns-in-TextWhite : goal.returns-in-TextWhite
returns-in-TextWhite c = record { call_is_step = did-step (inlines (defines c.args.self.now.labels)) c.args.name text_white _ _ _ _ (search rules) refl c.begin.ensures c.text_white.ensures }

pub returns-in-DataSpace : goal.returns-in-DataSpace
returns-in-DataSpace c = record { call_is_step = did-step (inlines (defines c.args.self.now.labels)) c.args.name data_space _ _ _ _ (search rules) refl c.begin.ensures c.data_space.ensures }

pub returns-in-DataSpaces : goal.returns-in-DataSpaces
returns-in-DataSpaces c = record { call_is_step = did-step (inlines (defines c.args.self.now.labels)) c.args.name data_spaces _ _ _ _ (search rules) refl c.begin.ensures c.data_spaces.ensures }

pub returns-in-DataWhite : goal.returns-in-DataWhite
returns-in-DataWhite c = record { call_is_step = did-step (inlines (defines c.args.self.now.labels)) c.args.name data_white _ _ _ _ (search rules) refl c.begin.ensures c.data_white.ensures }

pub returns-in-AttentionInside : goal.returns-in-AttentionInside
returns-in-AttentionInside c = record { call_is_step = did-step (inlines (defines c.args.self.now.labels)) c.args.name attention_inside _ _ _ _ (search rules) refl c.begin.ensures c.attention_inside.ensures }

pub returns-in-RawTextSequenceOpen : goal.returns-in-RawTextSequenceOpen
returns-in-RawTextSequenceOpen c = record { call_is_step = did-step (inlines (defines c.args.self.now.labels)) c.args.name remembered_open _ _ _ _ (search rules) refl c.begin.ensures c.remembered_open.ensures }

pub returns-in-RawTextBetween : goal.returns-in-RawTextBetween
returns-in-RawTextBetween c = record { call_is_step = did-step (inlines (defines c.args.self.now.labels)) c.args.name remembered_between _ _ _ _ (search rules) refl c.begin.ensures c.remembered_between.ensures }

pub returns-in-RawTextLineStart : goal.returns-in-RawTextLineStart
returns-in-RawTextLineStart c = record { call_is_step = did-step (inlines (defines c.args.self.now.labels)) c.args.name code_line _ _ _ _ (search rules) refl c.begin.ensures c.code_line.ensures }

pub returns-in-RawTextLineWhite : goal.returns-in-RawTextLineWhite
returns-in-RawTextLineWhite c = record { call_is_step = did-step (inlines (defines c.args.self.now.labels)) c.args.name code_white _ _ _ _ (search rules) refl c.begin.ensures c.code_white.ensures }

pub returns-in-RawTextData : goal.returns-in-RawTextData
returns-in-RawTextData c = record { call_is_step = did-step (inlines (defines c.args.self.now.labels)) c.args.name raw_text_data _ _ _ _ (search rules) refl c.begin.ensures c.raw_text_data.ensures }

pub returns-in-RawTextSequenceClose : goal.returns-in-RawTextSequenceClose
returns-in-RawTextSequenceClose c = record { call_is_step = did-step (inlines (defines c.args.self.now.labels)) c.args.name raw_text_sequence_close _ _ _ _ (search rules) refl c.begin.ensures c.raw_text_sequence_close.ensures }

pub returns-in-RawTextBackticksInside : goal.returns-in-RawTextBackticksInside
returns-in-RawTextBackticksInside c = record { call_is_step = did-step (inlines (defines c.args.self.now.labels)) c.args.name raw_text_backticks_inside _ _ _ _ (search rules) refl c.begin.ensures c.raw_text_backticks_inside.ensures }

pub returns-in-AutolinkOpen : goal.returns-in-AutolinkOpen
returns-in-AutolinkOpen c = record { call_is_step = did-step (inlines (defines c.args.self.now.labels)) c.args.name autolink_open _ _ _ _ (search rules) refl c.begin.ensures c.autolink_open.ensures }

pub returns-in-AutolinkSchemeInsideOrEmailAtext : goal.returns-in-AutolinkSchemeInsideOrEmailAtext
returns-in-AutolinkSchemeInsideOrEmailAtext c = record { call_is_step = did-step (inlines (defines c.args.self.now.labels)) c.args.name autolink_scheme _ _ _ _ (search rules) refl c.begin.ensures c.autolink_scheme.ensures }

pub returns-in-AutolinkUrlInside : goal.returns-in-AutolinkUrlInside
returns-in-AutolinkUrlInside c = record { call_is_step = did-step (inlines (defines c.args.self.now.labels)) c.args.name autolink_url _ _ _ _ (search rules) refl c.begin.ensures c.autolink_url.ensures }

pub returns-in-AutolinkEmailAtext : goal.returns-in-AutolinkEmailAtext
returns-in-AutolinkEmailAtext c = record { call_is_step = did-step (inlines (defines c.args.self.now.labels)) c.args.name email_atext _ _ _ _ (search rules) refl c.begin.ensures c.email_atext.ensures }

pub returns-in-AutolinkEmailLabel : goal.returns-in-AutolinkEmailLabel
returns-in-AutolinkEmailLabel c = record { call_is_step = did-step (inlines (defines c.args.self.now.labels)) c.args.name email_label _ _ _ _ (search rules) refl c.begin.ensures c.email_label.ensures }

pub returns-in-AutolinkEmailValue : goal.returns-in-AutolinkEmailValue
returns-in-AutolinkEmailValue c = record { call_is_step = did-step (inlines (defines c.args.self.now.labels)) c.args.name email_value _ _ _ _ (search rules) refl c.begin.ensures c.email_value.ensures }

pub returns-in-HtmlTextMarkOpen : goal.returns-in-HtmlTextMarkOpen
returns-in-HtmlTextMarkOpen c = record { call_is_step = did-step (inlines (defines c.args.self.now.labels)) c.args.name mark_open _ _ _ _ (search rules) refl c.begin.ensures c.mark_open.ensures }

pub returns-in-HtmlTextDeclarationOpen : goal.returns-in-HtmlTextDeclarationOpen
returns-in-HtmlTextDeclarationOpen c = record { call_is_step = did-step (inlines (defines c.args.self.now.labels)) c.args.name declaration_open _ _ _ _ (search rules) refl c.begin.ensures c.declaration_open.ensures }

pub returns-in-HtmlTextCommentOpenInside : goal.returns-in-HtmlTextCommentOpenInside
returns-in-HtmlTextCommentOpenInside c = record { call_is_step = did-step (inlines (defines c.args.self.now.labels)) c.args.name comment_open _ _ _ _ (search rules) refl c.begin.ensures c.comment_open.ensures }

pub returns-in-HtmlTextCdataOpenInside : goal.returns-in-HtmlTextCdataOpenInside
returns-in-HtmlTextCdataOpenInside c = record { call_is_step = did-step (inlines (defines c.args.self.now.labels)) c.args.name cdata_open _ _ _ _ (search rules) refl c.begin.ensures c.cdata_open.ensures }

pub returns-in-HtmlTextMarkInside : goal.returns-in-HtmlTextMarkInside
returns-in-HtmlTextMarkInside c = record { call_is_step = did-step (inlines (defines c.args.self.now.labels)) c.args.name mark_inside _ _ _ _ (search rules) refl c.begin.ensures c.mark_inside.ensures }

pub returns-in-HtmlTextMarkClose : goal.returns-in-HtmlTextMarkClose
returns-in-HtmlTextMarkClose c = record { call_is_step = did-step (inlines (defines c.args.self.now.labels)) c.args.name mark_close _ _ _ _ (search rules) refl c.begin.ensures c.mark_close.ensures }

pub returns-in-HtmlTextMarkLine : goal.returns-in-HtmlTextMarkLine
returns-in-HtmlTextMarkLine c = record { call_is_step = did-step (inlines (defines c.args.self.now.labels)) c.args.name mark_line _ _ _ _ (search rules) refl c.begin.ensures c.mark_line.ensures }

pub returns-in-HtmlTextMarkWhite : goal.returns-in-HtmlTextMarkWhite
returns-in-HtmlTextMarkWhite c = record { call_is_step = did-step (inlines (defines c.args.self.now.labels)) c.args.name mark_white _ _ _ _ (search rules) refl c.begin.ensures c.mark_white.ensures }

pub returns-in-HtmlTextOpen : goal.returns-in-HtmlTextOpen
returns-in-HtmlTextOpen c = record { call_is_step = did-step (inlines (defines c.args.self.now.labels)) c.args.name html_text_open _ _ _ _ (search rules) refl c.begin.ensures c.html_text_open.ensures }

pub returns-in-HtmlTextTagCloseStart : goal.returns-in-HtmlTextTagCloseStart
returns-in-HtmlTextTagCloseStart c = record { call_is_step = did-step (inlines (defines c.args.self.now.labels)) c.args.name html_text_tag_close_start _ _ _ _ (search rules) refl c.begin.ensures c.html_text_tag_close_start.ensures }

pub returns-in-HtmlTextTagClose : goal.returns-in-HtmlTextTagClose
returns-in-HtmlTextTagClose c = record { call_is_step = did-step (inlines (defines c.args.self.now.labels)) c.args.name html_text_tag_close _ _ _ _ (search rules) refl c.begin.ensures c.html_text_tag_close.ensures }

pub returns-in-HtmlTextTagCloseBetween : goal.returns-in-HtmlTextTagCloseBetween
returns-in-HtmlTextTagCloseBetween c = record { call_is_step = did-step (inlines (defines c.args.self.now.labels)) c.args.name html_text_tag_close_between _ _ _ _ (search rules) refl c.begin.ensures c.html_text_tag_close_between.ensures }

pub returns-in-HtmlTextTagOpen : goal.returns-in-HtmlTextTagOpen
returns-in-HtmlTextTagOpen c = record { call_is_step = did-step (inlines (defines c.args.self.now.labels)) c.args.name html_text_tag_open _ _ _ _ (search rules) refl c.begin.ensures c.html_text_tag_open.ensures }

pub returns-in-HtmlTextTagOpenBetween : goal.returns-in-HtmlTextTagOpenBetween
returns-in-HtmlTextTagOpenBetween c = record { call_is_step = did-step (inlines (defines c.args.self.now.labels)) c.args.name html_text_tag_open_between _ _ _ _ (search rules) refl c.begin.ensures c.html_text_tag_open_between.ensures }

pub returns-in-HtmlTextTagOpenAttributeName : goal.returns-in-HtmlTextTagOpenAttributeName
returns-in-HtmlTextTagOpenAttributeName c = record { call_is_step = did-step (inlines (defines c.args.self.now.labels)) c.args.name html_text_attribute_name _ _ _ _ (search rules) refl c.begin.ensures c.html_text_attribute_name.ensures }

pub returns-in-HtmlTextTagOpenAttributeNameAfter : goal.returns-in-HtmlTextTagOpenAttributeNameAfter
returns-in-HtmlTextTagOpenAttributeNameAfter c = record { call_is_step = did-step (inlines (defines c.args.self.now.labels)) c.args.name html_text_attribute_name_after _ _ _ _ (search rules) refl c.begin.ensures c.html_text_attribute_name_after.ensures }

pub returns-in-HtmlTextTagOpenAttributeValueBefore : goal.returns-in-HtmlTextTagOpenAttributeValueBefore
returns-in-HtmlTextTagOpenAttributeValueBefore c = record { call_is_step = did-step (inlines (defines c.args.self.now.labels)) c.args.name html_text_value_before _ _ _ _ (search rules) refl c.begin.ensures c.html_text_value_before.ensures }

pub returns-in-HtmlTextTagOpenAttributeValueQuoted : goal.returns-in-HtmlTextTagOpenAttributeValueQuoted
returns-in-HtmlTextTagOpenAttributeValueQuoted c = record { call_is_step = did-step (inlines (defines c.args.self.now.labels)) c.args.name html_text_value_quoted _ _ _ _ (search rules) refl c.begin.ensures c.html_text_value_quoted.ensures }

pub returns-in-HtmlTextTagOpenAttributeValueQuotedAfter : goal.returns-in-HtmlTextTagOpenAttributeValueQuotedAfter
returns-in-HtmlTextTagOpenAttributeValueQuotedAfter c = record { call_is_step = did-step (inlines (defines c.args.self.now.labels)) c.args.name html_text_value_quoted_after _ _ _ _ (search rules) refl c.begin.ensures c.html_text_value_quoted_after.ensures }

pub returns-in-HtmlTextTagOpenAttributeValueUnquoted : goal.returns-in-HtmlTextTagOpenAttributeValueUnquoted
returns-in-HtmlTextTagOpenAttributeValueUnquoted c = record { call_is_step = did-step (inlines (defines c.args.self.now.labels)) c.args.name html_text_value_unquoted _ _ _ _ (search rules) refl c.begin.ensures c.html_text_value_unquoted.ensures }

pub returns-in-HtmlTextEnd : goal.returns-in-HtmlTextEnd
returns-in-HtmlTextEnd c = record { call_is_step = did-step (inlines (defines c.args.self.now.labels)) c.args.name html_text_end _ _ _ _ (search rules) refl c.begin.ensures c.html_text_end.ensures }

pub returns-in-HtmlTextLineEndingAfter : goal.returns-in-HtmlTextLineEndingAfter
returns-in-HtmlTextLineEndingAfter c = record { call_is_step = did-step (inlines (defines c.args.self.now.labels)) c.args.name html_line_ending_after _ _ _ _ (search rules) refl c.begin.ensures c.html_line_ending_after.ensures }

pub returns-in-HtmlTextLineEndingAfterPrefix : goal.returns-in-HtmlTextLineEndingAfterPrefix
returns-in-HtmlTextLineEndingAfterPrefix c = record { call_is_step = did-step (inlines (defines c.args.self.now.labels)) c.args.name html_line_ending_after_prefix _ _ _ _ (search rules) refl c.begin.ensures c.html_line_ending_after_prefix.ensures }

pub returns-in-CharacterEscapeInside : goal.returns-in-CharacterEscapeInside
returns-in-CharacterEscapeInside c = record { call_is_step = did-step (inlines (defines c.args.self.now.labels)) c.args.name escape_inside _ _ _ _ (search rules) refl c.begin.ensures c.escape_inside.ensures }

pub returns-in-CharacterReferenceOpen : goal.returns-in-CharacterReferenceOpen
returns-in-CharacterReferenceOpen c = record { call_is_step = did-step (inlines (defines c.args.self.now.labels)) c.args.name reference_open _ _ _ _ (search rules) refl c.begin.ensures c.reference_open.ensures }

pub returns-in-CharacterReferenceNumeric : goal.returns-in-CharacterReferenceNumeric
returns-in-CharacterReferenceNumeric c = record { call_is_step = did-step (inlines (defines c.args.self.now.labels)) c.args.name reference_numeric _ _ _ _ (search rules) refl c.begin.ensures c.reference_numeric.ensures }

pub returns-in-CharacterReferenceValue : goal.returns-in-CharacterReferenceValue
returns-in-CharacterReferenceValue c = record { call_is_step = did-step (inlines (defines c.args.self.now.labels)) c.args.name reference_value _ _ _ _ (search rules) refl c.begin.ensures c.reference_value.ensures }

pub returns-in-HardBreakEscapeAfter : goal.returns-in-HardBreakEscapeAfter
returns-in-HardBreakEscapeAfter c = record { call_is_step = did-step (inlines (defines c.args.self.now.labels)) c.args.name break_escape_after _ _ _ _ (search rules) refl c.begin.ensures c.break_escape_after.ensures }

pub link_start-requires : goal.link_start-requires
link_start-requires c = callable (inlines (defines c.args.self.now.labels)) unchanged (λ local. refl) c.args.name link_start _ _ (search rules) refl c.requires.invariant.holds c.begin.ensures

pub image_start-requires : goal.image_start-requires
image_start-requires c = callable (inlines (defines c.args.self.now.labels)) unchanged (λ local. refl) c.args.name image_start _ _ (search rules) refl c.requires.invariant.holds c.begin.ensures

pub image_open-requires : goal.image_open-requires
image_open-requires c = callable (inlines (defines c.args.self.now.labels)) unchanged (λ local. refl) c.args.name image_open _ _ (search rules) refl c.requires.invariant.holds c.begin.ensures

pub end_start-requires : goal.end_start-requires
end_start-requires c = callable (inlines (defines c.args.self.now.labels)) unchanged (λ local. refl) c.args.name end_start _ _ (search rules) refl c.requires.invariant.holds c.begin.ensures

pub end_ok-requires : goal.end_ok-requires
end_ok-requires c = callable (inlines (defines c.args.self.now.labels)) unchanged (λ local. refl) c.args.name end_ok _ _ (search rules) refl c.requires.invariant.holds c.begin.ensures

pub end_nok-requires : goal.end_nok-requires
end_nok-requires c = callable (inlines (defines c.args.self.now.labels)) unchanged (λ local. refl) c.args.name end_nok _ _ (search rules) refl c.requires.invariant.holds c.begin.ensures

pub resource_start-requires : goal.resource_start-requires
resource_start-requires c = callable (inlines (defines c.args.self.now.labels)) unchanged (λ local. refl) c.args.name resource_start _ _ (search rules) refl c.requires.invariant.holds c.begin.ensures

pub resource_before-requires : goal.resource_before-requires
resource_before-requires c = callable (inlines (defines c.args.self.now.labels)) unchanged (λ local. refl) c.args.name resource_before _ _ (search rules) refl c.requires.invariant.holds c.begin.ensures

pub gap_white-requires : goal.gap_white-requires
gap_white-requires c = callable (inlines (defines c.args.self.now.labels)) unchanged (λ local. refl) c.args.name gap_white _ _ (search rules) refl c.requires.invariant.holds c.begin.ensures

pub gap_line-requires : goal.gap_line-requires
gap_line-requires c = callable (inlines (defines c.args.self.now.labels)) unchanged (λ local. refl) c.args.name gap_line _ _ (search rules) refl c.requires.invariant.holds c.begin.ensures

pub gap_line_white-requires : goal.gap_line_white-requires
gap_line_white-requires c = callable (inlines (defines c.args.self.now.labels)) unchanged (λ local. refl) c.args.name gap_line_white _ _ (search rules) refl c.requires.invariant.holds c.begin.ensures

pub resource_open-requires : goal.resource_open-requires
resource_open-requires c = callable (inlines (defines c.args.self.now.labels)) unchanged (λ local. refl) c.args.name resource_open _ _ (search rules) refl c.requires.invariant.holds c.begin.ensures

pub enclosed_before-requires : goal.enclosed_before-requires
enclosed_before-requires c = callable (inlines (defines c.args.self.now.labels)) unchanged (λ local. refl) c.args.name enclosed_before _ _ (search rules) refl c.requires.invariant.holds c.begin.ensures

pub enclosed-requires : goal.enclosed-requires
enclosed-requires c = callable (inlines (defines c.args.self.now.labels)) unchanged (λ local. refl) c.args.name enclosed _ _ (search rules) refl c.requires.invariant.holds c.begin.ensures

pub enclosed_escape-requires : goal.enclosed_escape-requires
enclosed_escape-requires c = callable (inlines (defines c.args.self.now.labels)) unchanged (λ local. refl) c.args.name enclosed_escape _ _ (search rules) refl c.requires.invariant.holds c.begin.ensures

pub destination_end-requires : goal.destination_end-requires
destination_end-requires c = callable (inlines (defines c.args.self.now.labels)) unchanged (λ local. refl) c.args.name destination_end _ _ (search rules) refl c.requires.invariant.holds c.begin.ensures

pub raw-requires : goal.raw-requires
raw-requires c = callable (inlines (defines c.args.self.now.labels)) unchanged (λ local. refl) c.args.name raw _ _ (search rules) refl c.requires.invariant.holds c.begin.ensures

pub raw_escape-requires : goal.raw_escape-requires
raw_escape-requires c = callable (inlines (defines c.args.self.now.labels)) unchanged (λ local. refl) c.args.name raw_escape _ _ (search rules) refl c.requires.invariant.holds c.begin.ensures

pub destination_after-requires : goal.destination_after-requires
destination_after-requires c = callable (inlines (defines c.args.self.now.labels)) unchanged (λ local. refl) c.args.name destination_after _ _ (search rules) refl c.requires.invariant.holds c.begin.ensures

pub title_start-requires : goal.title_start-requires
title_start-requires c = callable (inlines (defines c.args.self.now.labels)) unchanged (λ local. refl) c.args.name title_start _ _ (search rules) refl c.requires.invariant.holds c.begin.ensures

pub title_begin-requires : goal.title_begin-requires
title_begin-requires c = callable (inlines (defines c.args.self.now.labels)) unchanged (λ local. refl) c.args.name title_begin _ _ (search rules) refl c.requires.invariant.holds c.begin.ensures

pub title_inside-requires : goal.title_inside-requires
title_inside-requires c = callable (inlines (defines c.args.self.now.labels)) unchanged (λ local. refl) c.args.name title_inside _ _ (search rules) refl c.requires.invariant.holds c.begin.ensures

pub title_escape-requires : goal.title_escape-requires
title_escape-requires c = callable (inlines (defines c.args.self.now.labels)) unchanged (λ local. refl) c.args.name title_escape _ _ (search rules) refl c.requires.invariant.holds c.begin.ensures

pub title_line-requires : goal.title_line-requires
title_line-requires c = callable (inlines (defines c.args.self.now.labels)) unchanged (λ local. refl) c.args.name title_line _ _ (search rules) refl c.requires.invariant.holds c.begin.ensures

pub title_white-requires : goal.title_white-requires
title_white-requires c = callable (inlines (defines c.args.self.now.labels)) unchanged (λ local. refl) c.args.name title_white _ _ (search rules) refl c.requires.invariant.holds c.begin.ensures

pub title_end-requires : goal.title_end-requires
title_end-requires c = callable (inlines (defines c.args.self.now.labels)) unchanged (λ local. refl) c.args.name title_end _ _ (search rules) refl c.requires.invariant.holds c.begin.ensures

pub resource_end-requires : goal.resource_end-requires
resource_end-requires c = callable (inlines (defines c.args.self.now.labels)) unchanged (λ local. refl) c.args.name resource_end _ _ (search rules) refl c.requires.invariant.holds c.begin.ensures

pub returns-in-LabelStartLinkStart : goal.returns-in-LabelStartLinkStart
returns-in-LabelStartLinkStart c = record { call_is_step = did-step (inlines (defines c.args.self.now.labels)) c.args.name link_start _ _ _ _ (search rules) refl c.begin.ensures c.link_start.ensures }

pub returns-in-LabelStartImageStart : goal.returns-in-LabelStartImageStart
returns-in-LabelStartImageStart c = record { call_is_step = did-step (inlines (defines c.args.self.now.labels)) c.args.name image_start _ _ _ _ (search rules) refl c.begin.ensures c.image_start.ensures }

pub returns-in-LabelStartImageOpen : goal.returns-in-LabelStartImageOpen
returns-in-LabelStartImageOpen c = record { call_is_step = did-step (inlines (defines c.args.self.now.labels)) c.args.name image_open _ _ _ _ (search rules) refl c.begin.ensures c.image_open.ensures }

pub returns-in-LabelEndStart : goal.returns-in-LabelEndStart
returns-in-LabelEndStart c = record { call_is_step = did-step (inlines (defines c.args.self.now.labels)) c.args.name end_start _ _ _ _ (search rules) refl c.begin.ensures c.end_start.ensures }

pub returns-in-LabelEndOk : goal.returns-in-LabelEndOk
returns-in-LabelEndOk c = record { call_is_step = did-step (inlines (defines c.args.self.now.labels)) c.args.name end_ok _ _ _ _ (search rules) refl c.begin.ensures c.end_ok.ensures }

pub returns-in-LabelEndNok : goal.returns-in-LabelEndNok
returns-in-LabelEndNok c = record { call_is_step = did-step (inlines (defines c.args.self.now.labels)) c.args.name end_nok _ _ _ _ (search rules) refl c.begin.ensures c.end_nok.ensures }

pub returns-in-LabelEndResourceStart : goal.returns-in-LabelEndResourceStart
returns-in-LabelEndResourceStart c = record { call_is_step = did-step (inlines (defines c.args.self.now.labels)) c.args.name resource_start _ _ _ _ (search rules) refl c.begin.ensures c.resource_start.ensures }

pub returns-in-LabelEndResourceBefore : goal.returns-in-LabelEndResourceBefore
returns-in-LabelEndResourceBefore c = record { call_is_step = did-step (inlines (defines c.args.self.now.labels)) c.args.name resource_before _ _ _ _ (search rules) refl c.begin.ensures c.resource_before.ensures }

pub returns-in-ResourceGapWhite : goal.returns-in-ResourceGapWhite
returns-in-ResourceGapWhite c = record { call_is_step = did-step (inlines (defines c.args.self.now.labels)) c.args.name gap_white _ _ _ _ (search rules) refl c.begin.ensures c.gap_white.ensures }

pub returns-in-ResourceGapLine : goal.returns-in-ResourceGapLine
returns-in-ResourceGapLine c = record { call_is_step = did-step (inlines (defines c.args.self.now.labels)) c.args.name gap_line _ _ _ _ (search rules) refl c.begin.ensures c.gap_line.ensures }

pub returns-in-ResourceGapLineWhite : goal.returns-in-ResourceGapLineWhite
returns-in-ResourceGapLineWhite c = record { call_is_step = did-step (inlines (defines c.args.self.now.labels)) c.args.name gap_line_white _ _ _ _ (search rules) refl c.begin.ensures c.gap_line_white.ensures }

pub returns-in-LabelEndResourceOpen : goal.returns-in-LabelEndResourceOpen
returns-in-LabelEndResourceOpen c = record { call_is_step = did-step (inlines (defines c.args.self.now.labels)) c.args.name resource_open _ _ _ _ (search rules) refl c.begin.ensures c.resource_open.ensures }

pub returns-in-DestinationEnclosedBefore : goal.returns-in-DestinationEnclosedBefore
returns-in-DestinationEnclosedBefore c = record { call_is_step = did-step (inlines (defines c.args.self.now.labels)) c.args.name enclosed_before _ _ _ _ (search rules) refl c.begin.ensures c.enclosed_before.ensures }

pub returns-in-DestinationEnclosed : goal.returns-in-DestinationEnclosed
returns-in-DestinationEnclosed c = record { call_is_step = did-step (inlines (defines c.args.self.now.labels)) c.args.name enclosed _ _ _ _ (search rules) refl c.begin.ensures c.enclosed.ensures }

pub returns-in-DestinationEnclosedEscape : goal.returns-in-DestinationEnclosedEscape
returns-in-DestinationEnclosedEscape c = record { call_is_step = did-step (inlines (defines c.args.self.now.labels)) c.args.name enclosed_escape _ _ _ _ (search rules) refl c.begin.ensures c.enclosed_escape.ensures }

pub returns-in-ResourceDestinationEnd : goal.returns-in-ResourceDestinationEnd
returns-in-ResourceDestinationEnd c = record { call_is_step = did-step (inlines (defines c.args.self.now.labels)) c.args.name destination_end _ _ _ _ (search rules) refl c.begin.ensures c.destination_end.ensures }

pub returns-in-DestinationRaw : goal.returns-in-DestinationRaw
returns-in-DestinationRaw c = record { call_is_step = did-step (inlines (defines c.args.self.now.labels)) c.args.name raw _ _ _ _ (search rules) refl c.begin.ensures c.raw.ensures }

pub returns-in-DestinationRawEscape : goal.returns-in-DestinationRawEscape
returns-in-DestinationRawEscape c = record { call_is_step = did-step (inlines (defines c.args.self.now.labels)) c.args.name raw_escape _ _ _ _ (search rules) refl c.begin.ensures c.raw_escape.ensures }

pub returns-in-LabelEndResourceDestinationAfter : goal.returns-in-LabelEndResourceDestinationAfter
returns-in-LabelEndResourceDestinationAfter c = record { call_is_step = did-step (inlines (defines c.args.self.now.labels)) c.args.name destination_after _ _ _ _ (search rules) refl c.begin.ensures c.destination_after.ensures }

pub returns-in-TitleStart : goal.returns-in-TitleStart
returns-in-TitleStart c = record { call_is_step = did-step (inlines (defines c.args.self.now.labels)) c.args.name title_start _ _ _ _ (search rules) refl c.begin.ensures c.title_start.ensures }

pub returns-in-TitleBegin : goal.returns-in-TitleBegin
returns-in-TitleBegin c = record { call_is_step = did-step (inlines (defines c.args.self.now.labels)) c.args.name title_begin _ _ _ _ (search rules) refl c.begin.ensures c.title_begin.ensures }

pub returns-in-TitleInside : goal.returns-in-TitleInside
returns-in-TitleInside c = record { call_is_step = did-step (inlines (defines c.args.self.now.labels)) c.args.name title_inside _ _ _ _ (search rules) refl c.begin.ensures c.title_inside.ensures }

pub returns-in-TitleEscape : goal.returns-in-TitleEscape
returns-in-TitleEscape c = record { call_is_step = did-step (inlines (defines c.args.self.now.labels)) c.args.name title_escape _ _ _ _ (search rules) refl c.begin.ensures c.title_escape.ensures }

pub returns-in-TitleAfterEol : goal.returns-in-TitleAfterEol
returns-in-TitleAfterEol c = record { call_is_step = did-step (inlines (defines c.args.self.now.labels)) c.args.name title_line _ _ _ _ (search rules) refl c.begin.ensures c.title_line.ensures }

pub returns-in-ResourceTitleWhite : goal.returns-in-ResourceTitleWhite
returns-in-ResourceTitleWhite c = record { call_is_step = did-step (inlines (defines c.args.self.now.labels)) c.args.name title_white _ _ _ _ (search rules) refl c.begin.ensures c.title_white.ensures }

pub returns-in-ResourceTitleEnd : goal.returns-in-ResourceTitleEnd
returns-in-ResourceTitleEnd c = record { call_is_step = did-step (inlines (defines c.args.self.now.labels)) c.args.name title_end _ _ _ _ (search rules) refl c.begin.ensures c.title_end.ensures }

pub returns-in-LabelEndResourceEnd : goal.returns-in-LabelEndResourceEnd
returns-in-LabelEndResourceEnd c = record { call_is_step = did-step (inlines (defines c.args.self.now.labels)) c.args.name resource_end _ _ _ _ (search rules) refl c.begin.ensures c.resource_end.ensures }
