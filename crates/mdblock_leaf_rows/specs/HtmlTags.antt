-- Looks at the start of HTML blocks. They say which of the seven kinds a line begins (CommonMark, 4.6). A tag whose name is not listed has all
-- of its line looked at: kind 7 is one complete tag, and nothing more. A name is counted as a number (`HtmlNames`).
use Rattle.std.specs.Prelude.{ℕ, true, false, [], ◌∷◌}
use Rattle.markdown_base.specs.declared.state.State.TheVariants.{Next, Retry, Ok, Nok}
use Rattle.markdown_base.specs.declared.state.TheConstants.Name.{HtmlFlowBasicSelfClosing, HtmlFlowCdataOpenInside, HtmlFlowCommentOpenInside, HtmlFlowCompleteAfter, HtmlFlowCompleteAttributeName, HtmlFlowCompleteAttributeNameAfter, HtmlFlowCompleteAttributeNameBefore, HtmlFlowCompleteAttributeValueBefore, HtmlFlowCompleteAttributeValueQuoted, HtmlFlowCompleteAttributeValueQuotedAfter, HtmlFlowCompleteAttributeValueUnquoted, HtmlFlowCompleteClosingTagAfter, HtmlFlowCompleteEnd, HtmlFlowDeclarationOpen, HtmlFlowOpen, HtmlFlowTagCloseStart, HtmlFlowTagName}
use Rattle.mdconstructs_tables.specs.Cases.{at}
use Rattle.mdconstructs_tables.specs.Rows.{consume, write, Rows, row, when, a_choice, StateRows, costs, state}
use Rattle.mdblock_leaf_rows.specs.FlowBytes.{FlowByte, begins_name, begins_no_value, is_bang, is_blank, is_dash, is_double, is_equals, is_greater, is_in_name, is_in_no_value, is_letter, is_line_feed, is_opening, is_question, is_quote, is_single, is_slash, Cased, cased, spelled}
use Rattle.mdblock_leaf_rows.specs.FlowCosts.{looking}
use Rattle.mdblock_leaf_rows.specs.FlowWrites.{at_mark, mark_becomes, size_becomes, size_grows}
use Rattle.mdblock_leaf_rows.specs.HtmlNames.{no_name}
use Rattle.mdblock_leaf_rows.specs.HtmlWrites.{at_cdata, closes_tag, html_becomes, is_block_tag, name_grows, opens_raw, tag_closes}

-- a look behind a less-than sign
abbrev pub html_flow_open_rows : {R D : Type 0} → Cased R D
html_flow_open_rows = record {
  at_end = row [] Nok;
  cases =
      at is_letter (row (write (tag_closes false) ∷ write (size_becomes 0) ∷ []) (Retry HtmlFlowTagName))
      ∷ at is_slash (row (consume ∷ []) (Next HtmlFlowTagCloseStart))
      ∷ at is_bang (row (consume ∷ []) (Next HtmlFlowDeclarationOpen))
      ∷ at is_question (row (write (html_becomes 3) ∷ []) Ok) ∷ [];
  rest = row [] Nok;
}

abbrev pub html_flow_open : {R D : Type 0} → StateRows FlowByte R D
html_flow_open = record (state HtmlFlowOpen (cased html_flow_open_rows) [] (costs (looking 2))) { needs = a_choice }

-- a look behind `<!`
abbrev pub html_flow_declaration_open_rows : {R D : Type 0} → Cased R D
html_flow_declaration_open_rows = record {
  at_end = row [] Nok;
  cases =
      at is_letter (row (write (html_becomes 4) ∷ []) Ok)
      ∷ at is_dash (row (consume ∷ []) (Next HtmlFlowCommentOpenInside))
      ∷ at is_opening (row (write (size_becomes 0) ∷ consume ∷ []) (Next HtmlFlowCdataOpenInside)) ∷ [];
  rest = row [] Nok;
}

abbrev pub html_flow_declaration_open : {R D : Type 0} → StateRows FlowByte R D
html_flow_declaration_open = record (state HtmlFlowDeclarationOpen (cased html_flow_declaration_open_rows) [] (costs (looking 1))) { needs = a_choice }

-- a look behind `<!-`
abbrev pub html_flow_comment_open_inside_rows : {R D : Type 0} → Cased R D
html_flow_comment_open_inside_rows = record {
  at_end = row [] Nok;
  cases = at is_dash (row (write (html_becomes 2) ∷ []) Ok) ∷ [];
  rest = row [] Nok;
}

abbrev pub html_flow_comment_open_inside : {R D : Type 0} → StateRows FlowByte R D
html_flow_comment_open_inside = record (state HtmlFlowCommentOpenInside (cased html_flow_comment_open_inside_rows) [] (costs (looking 1))) { needs = a_choice }

-- a look behind `<![` and so many bytes of `CDATA[`
abbrev pub html_flow_cdata_open_inside_rows : {R D : Type 0} → Cased R D
html_flow_cdata_open_inside_rows = record {
  at_end = row [] Nok;
  cases =
      at is_letter (when at_cdata (row (write size_grows ∷ consume ∷ []) (Next HtmlFlowCdataOpenInside)) (row [] Nok))
      ∷ at is_opening (when at_cdata (row (write (html_becomes 5) ∷ []) Ok) (row [] Nok)) ∷ [];
  rest = row [] Nok;
}

abbrev pub html_flow_cdata_open_inside : {R D : Type 0} → StateRows FlowByte R D
html_flow_cdata_open_inside = record (state HtmlFlowCdataOpenInside (cased html_flow_cdata_open_inside_rows) [] (costs (looking 1))) { needs = a_choice }

-- a look behind `</`
abbrev pub html_flow_tag_close_start_rows : {R D : Type 0} → Cased R D
html_flow_tag_close_start_rows = record {
  at_end = row [] Nok;
  cases = at is_letter (row (write (tag_closes true) ∷ write (size_becomes 0) ∷ []) (Retry HtmlFlowTagName)) ∷ [];
  rest = row [] Nok;
}

abbrev pub html_flow_tag_close_start : {R D : Type 0} → StateRows FlowByte R D
html_flow_tag_close_start = record (state HtmlFlowTagCloseStart (cased html_flow_tag_close_start_rows) [] (costs (looking 2))) { needs = a_choice }

-- a letter or a digit of its name
abbrev pub html_flow_tag_name_goes_on : {R D : Type 0} → (byte : ℕ) → Rows R D
html_flow_tag_name_goes_on byte = row (write (name_grows byte) ∷ consume ∷ []) (Next HtmlFlowTagName)

-- a look at the name of a tag, whose letters and digits make a number
abbrev pub html_flow_tag_name_rows : {R D : Type 0} → Cased R D
html_flow_tag_name_rows = record {
  at_end = when opens_raw (row (write (html_becomes 1) ∷ []) Ok) (when is_block_tag (row (write (html_becomes 6) ∷ []) Ok) (row [] Nok));
  cases =
      at is_line_feed (when opens_raw (row (write (html_becomes 1) ∷ []) Ok) (when is_block_tag (row (write (html_becomes 6) ∷ []) Ok) (row [] Nok)))
      ∷ at is_blank (when opens_raw (row (write (html_becomes 1) ∷ []) Ok) (when is_block_tag (row (write (html_becomes 6) ∷ []) Ok) (when closes_tag (row (consume ∷ []) (Next HtmlFlowCompleteClosingTagAfter)) (row (consume ∷ []) (Next HtmlFlowCompleteAttributeNameBefore)))))
      ∷ at is_greater (when opens_raw (row (write (html_becomes 1) ∷ []) Ok) (when is_block_tag (row (write (html_becomes 6) ∷ []) Ok) (row (consume ∷ []) (Next HtmlFlowCompleteAfter))))
      ∷ at is_slash (when is_block_tag (row (consume ∷ []) (Next HtmlFlowBasicSelfClosing)) (when closes_tag (row [] Nok) (row (consume ∷ []) (Next HtmlFlowCompleteEnd))))
      ∷ at is_dash (row (write (size_becomes no_name) ∷ consume ∷ []) (Next HtmlFlowTagName)) ∷ [];
  rest = row [] Nok;
}

abbrev pub html_flow_tag_name : {R D : Type 0} → StateRows FlowByte R D
html_flow_tag_name = record (state HtmlFlowTagName (spelled html_flow_tag_name_goes_on html_flow_tag_name_rows) [] (costs (looking 1))) { needs = a_choice }

-- a look behind the slash of a tag with a listed name
abbrev pub html_flow_basic_self_closing_rows : {R D : Type 0} → Cased R D
html_flow_basic_self_closing_rows = record {
  at_end = row [] Nok;
  cases = at is_greater (row (write (html_becomes 6) ∷ []) Ok) ∷ [];
  rest = row [] Nok;
}

abbrev pub html_flow_basic_self_closing : {R D : Type 0} → StateRows FlowByte R D
html_flow_basic_self_closing = record (state HtmlFlowBasicSelfClosing (cased html_flow_basic_self_closing_rows) [] (costs (looking 1))) { needs = a_choice }

-- a look over white space behind the name of a closing tag
abbrev pub html_flow_complete_closing_tag_after_rows : {R D : Type 0} → Cased R D
html_flow_complete_closing_tag_after_rows = record {
  at_end = row [] Nok;
  cases =
      at is_blank (row (consume ∷ []) (Next HtmlFlowCompleteClosingTagAfter))
      ∷ at is_greater (row (consume ∷ []) (Next HtmlFlowCompleteAfter)) ∷ [];
  rest = row [] Nok;
}

abbrev pub html_flow_complete_closing_tag_after : {R D : Type 0} → StateRows FlowByte R D
html_flow_complete_closing_tag_after = record (state HtmlFlowCompleteClosingTagAfter (cased html_flow_complete_closing_tag_after_rows) [] (costs (looking 1))) { needs = a_choice }

-- a look behind the slash of an opening tag
abbrev pub html_flow_complete_end_rows : {R D : Type 0} → Cased R D
html_flow_complete_end_rows = record {
  at_end = row [] Nok;
  cases = at is_greater (row (consume ∷ []) (Next HtmlFlowCompleteAfter)) ∷ [];
  rest = row [] Nok;
}

abbrev pub html_flow_complete_end : {R D : Type 0} → StateRows FlowByte R D
html_flow_complete_end = record (state HtmlFlowCompleteEnd (cased html_flow_complete_end_rows) [] (costs (looking 1))) { needs = a_choice }

-- a look over white space before an attribute, or before the end of the tag
abbrev pub html_flow_complete_attribute_name_before_rows : {R D : Type 0} → Cased R D
html_flow_complete_attribute_name_before_rows = record {
  at_end = row [] Nok;
  cases =
      at is_blank (row (consume ∷ []) (Next HtmlFlowCompleteAttributeNameBefore))
      ∷ at begins_name (row (consume ∷ []) (Next HtmlFlowCompleteAttributeName))
      ∷ at is_slash (row (consume ∷ []) (Next HtmlFlowCompleteEnd))
      ∷ at is_greater (row (consume ∷ []) (Next HtmlFlowCompleteAfter)) ∷ [];
  rest = row [] Nok;
}

abbrev pub html_flow_complete_attribute_name_before : {R D : Type 0} → StateRows FlowByte R D
html_flow_complete_attribute_name_before = record (state HtmlFlowCompleteAttributeNameBefore (cased html_flow_complete_attribute_name_before_rows) [] (costs (looking 1))) { needs = a_choice }

-- a look over the name of an attribute
abbrev pub html_flow_complete_attribute_name_rows : {R D : Type 0} → Cased R D
html_flow_complete_attribute_name_rows = record {
  at_end = row [] Nok;
  cases =
      at is_in_name (row (consume ∷ []) (Next HtmlFlowCompleteAttributeName))
      ∷ at is_blank (row (consume ∷ []) (Next HtmlFlowCompleteAttributeNameAfter))
      ∷ at is_equals (row (consume ∷ []) (Next HtmlFlowCompleteAttributeValueBefore))
      ∷ at is_slash (row (consume ∷ []) (Next HtmlFlowCompleteEnd))
      ∷ at is_greater (row (consume ∷ []) (Next HtmlFlowCompleteAfter)) ∷ [];
  rest = row [] Nok;
}

abbrev pub html_flow_complete_attribute_name : {R D : Type 0} → StateRows FlowByte R D
html_flow_complete_attribute_name = record (state HtmlFlowCompleteAttributeName (cased html_flow_complete_attribute_name_rows) [] (costs (looking 1))) { needs = a_choice }

-- a look over white space behind the name of an attribute
abbrev pub html_flow_complete_attribute_name_after_rows : {R D : Type 0} → Cased R D
html_flow_complete_attribute_name_after_rows = record {
  at_end = row [] Nok;
  cases =
      at is_blank (row (consume ∷ []) (Next HtmlFlowCompleteAttributeNameAfter))
      ∷ at is_equals (row (consume ∷ []) (Next HtmlFlowCompleteAttributeValueBefore))
      ∷ at begins_name (row (consume ∷ []) (Next HtmlFlowCompleteAttributeName))
      ∷ at is_slash (row (consume ∷ []) (Next HtmlFlowCompleteEnd))
      ∷ at is_greater (row (consume ∷ []) (Next HtmlFlowCompleteAfter)) ∷ [];
  rest = row [] Nok;
}

abbrev pub html_flow_complete_attribute_name_after : {R D : Type 0} → StateRows FlowByte R D
html_flow_complete_attribute_name_after = record (state HtmlFlowCompleteAttributeNameAfter (cased html_flow_complete_attribute_name_after_rows) [] (costs (looking 1))) { needs = a_choice }

-- a look over white space before the value of an attribute
abbrev pub html_flow_complete_attribute_value_before_rows : {R D : Type 0} → Cased R D
html_flow_complete_attribute_value_before_rows = record {
  at_end = row [] Nok;
  cases =
      at is_line_feed (row [] Nok)
      ∷ at is_blank (row (consume ∷ []) (Next HtmlFlowCompleteAttributeValueBefore))
      ∷ at is_double (row (write (mark_becomes 34) ∷ consume ∷ []) (Next HtmlFlowCompleteAttributeValueQuoted))
      ∷ at is_single (row (write (mark_becomes 39) ∷ consume ∷ []) (Next HtmlFlowCompleteAttributeValueQuoted))
      ∷ at begins_no_value (row [] Nok) ∷ [];
  rest = row (consume ∷ []) (Next HtmlFlowCompleteAttributeValueUnquoted);
}

abbrev pub html_flow_complete_attribute_value_before : {R D : Type 0} → StateRows FlowByte R D
html_flow_complete_attribute_value_before = record (state HtmlFlowCompleteAttributeValueBefore (cased html_flow_complete_attribute_value_before_rows) [] (costs (looking 1))) { needs = a_choice }

-- a look over a quoted value
abbrev pub html_flow_complete_attribute_value_quoted_rows : {R D : Type 0} → Cased R D
html_flow_complete_attribute_value_quoted_rows = record {
  at_end = row [] Nok;
  cases =
      at is_line_feed (row [] Nok)
      ∷ at is_quote (when at_mark (row (consume ∷ []) (Next HtmlFlowCompleteAttributeValueQuotedAfter)) (row (consume ∷ []) (Next HtmlFlowCompleteAttributeValueQuoted))) ∷ [];
  rest = row (consume ∷ []) (Next HtmlFlowCompleteAttributeValueQuoted);
}

abbrev pub html_flow_complete_attribute_value_quoted : {R D : Type 0} → StateRows FlowByte R D
html_flow_complete_attribute_value_quoted = record (state HtmlFlowCompleteAttributeValueQuoted (cased html_flow_complete_attribute_value_quoted_rows) [] (costs (looking 1))) { needs = a_choice }

-- a look behind a quoted value
abbrev pub html_flow_complete_attribute_value_quoted_after_rows : {R D : Type 0} → Cased R D
html_flow_complete_attribute_value_quoted_after_rows = record {
  at_end = row [] Nok;
  cases =
      at is_blank (row (consume ∷ []) (Next HtmlFlowCompleteAttributeNameBefore))
      ∷ at is_slash (row (consume ∷ []) (Next HtmlFlowCompleteEnd))
      ∷ at is_greater (row (consume ∷ []) (Next HtmlFlowCompleteAfter)) ∷ [];
  rest = row [] Nok;
}

abbrev pub html_flow_complete_attribute_value_quoted_after : {R D : Type 0} → StateRows FlowByte R D
html_flow_complete_attribute_value_quoted_after = record (state HtmlFlowCompleteAttributeValueQuotedAfter (cased html_flow_complete_attribute_value_quoted_after_rows) [] (costs (looking 1))) { needs = a_choice }

-- a look over a value without quotes
abbrev pub html_flow_complete_attribute_value_unquoted_rows : {R D : Type 0} → Cased R D
html_flow_complete_attribute_value_unquoted_rows = record {
  at_end = row [] Nok;
  cases =
      at is_line_feed (row [] Nok)
      ∷ at is_blank (row (consume ∷ []) (Next HtmlFlowCompleteAttributeNameBefore))
      ∷ at is_greater (row (consume ∷ []) (Next HtmlFlowCompleteAfter))
      ∷ at is_in_no_value (row [] Nok) ∷ [];
  rest = row (consume ∷ []) (Next HtmlFlowCompleteAttributeValueUnquoted);
}

abbrev pub html_flow_complete_attribute_value_unquoted : {R D : Type 0} → StateRows FlowByte R D
html_flow_complete_attribute_value_unquoted = record (state HtmlFlowCompleteAttributeValueUnquoted (cased html_flow_complete_attribute_value_unquoted_rows) [] (costs (looking 1))) { needs = a_choice }

-- a look over white space behind a complete tag
abbrev pub html_flow_complete_after_rows : {R D : Type 0} → Cased R D
html_flow_complete_after_rows = record {
  at_end = row (write (html_becomes 7) ∷ []) Ok;
  cases =
      at is_line_feed (row (write (html_becomes 7) ∷ []) Ok)
      ∷ at is_blank (row (consume ∷ []) (Next HtmlFlowCompleteAfter)) ∷ [];
  rest = row [] Nok;
}

abbrev pub html_flow_complete_after : {R D : Type 0} → StateRows FlowByte R D
html_flow_complete_after = record (state HtmlFlowCompleteAfter (cased html_flow_complete_after_rows) [] (costs (looking 1))) { needs = a_choice }
