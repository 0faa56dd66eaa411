-- Rows that read tags.
use Rattle.std.specs.Prelude.{ℕ, ◌==◌, ◌&&◌, ◌||◌, Bool, false, List, [], ◌∷◌, Option}
use Rattle.std.specs.Char.{is_ascii_alphabetic}
use Rattle.markdown_base.specs.declared.event.Name.TheVariants.{HtmlText, HtmlTextData}
use Rattle.markdown_base.specs.declared.state.State.TheVariants.{Next}
use Rattle.markdown_base.specs.declared.state.TheConstants.Name.{TextBeforeData, HtmlTextStart, HtmlTextOpen, HtmlTextTagCloseStart, HtmlTextTagClose, HtmlTextTagCloseBetween, HtmlTextTagOpen, HtmlTextTagOpenBetween, HtmlTextTagOpenAttributeName, HtmlTextTagOpenAttributeNameAfter, HtmlTextTagOpenAttributeValueBefore, HtmlTextTagOpenAttributeValueQuoted, HtmlTextTagOpenAttributeValueQuotedAfter, HtmlTextTagOpenAttributeValueUnquoted, HtmlTextEnd}
use Rattle.markdown_tokenizer.specs.Text.{Given}
use Rattle.markdown_tokenizer.specs.Configuration.{Configuration, Local}
use Rattle.markdown_tokenizer.specs.Sight.{Sight}
use Rattle.mdconstructs_tables.specs.Rows.{enter, consume, write, Rows, row, when, at_bytes, StateRows, state}
use Rattle.mdconstructs_tables.specs.Numbers.{Price, by_left}
use Rattle.mdinline_text_machine.specs.Bytes.{passes, is_greater_than}
use Rattle.mdinline_text_machine.specs.Construct.{Found, Construct, if_option, tried}
use Rattle.mdinline_text_machine.specs.TextBytes.{TextByte, is_less_class}
use Rattle.mdinline_text_machine.specs.TextCosts.{text_cost}
use Rattle.mdinline_constructs.specs.HtmlTextRows.{sees, html_rows, no_html, html_goes_on, html_ends, html_line_ends, html_state, html_line_ending_after, html_line_ending_after_prefix}
use Rattle.mdinline_constructs.specs.HtmlTag.{is_slash, is_equals_sign, is_double_quote, is_single_quote, is_tag_white, is_tag_name_byte, begins_attribute_name, is_attribute_name_byte, is_unquoted, html_tag_grammar}

-- the quotation mark of a value is kept
abbrev pub quote_is : {R D : Type 0} → ℕ → Configuration R D → Local R D
quote_is quote k = record k.local { tokenize_state = record k.local.tokenize_state { marker = quote } }

-- a quotation mark
abbrev pub is_quote : ℕ → Bool
is_quote byte = is_double_quote byte || is_single_quote byte

-- the quotation mark that was kept waits
abbrev pub quote_waits : {R D : Type 0} → Given → Sight → Configuration R D → Bool
quote_waits g s k = passes (λ b. is_quote b && (b == k.local.tokenize_state.marker)) s.current

-- Tag: it begins with `<`
abbrev pub html_text_start_rows : {R D : Type 0} → (previous current : Option TextByte) → Rows R D
html_text_start_rows _ _ = row (enter HtmlText ∷ enter HtmlTextData ∷ consume ∷ []) (Next HtmlTextOpen)

-- its state: it is called only at `<`, and no span is open yet
abbrev pub html_text_start : {R D : Type 0} → StateRows TextByte R D
html_text_start =
    tried (record (state HtmlTextStart html_text_start_rows [] (text_cost (by_left 0 2 1))) { called = at_bytes is_less_class })

-- behind `<`
abbrev pub html_text_open_rows : {R D : Type 0} → (previous current : Option TextByte) → Rows R D
html_text_open_rows = html_rows no_html (when (sees is_slash) (html_goes_on HtmlTextTagCloseStart) (when (sees is_ascii_alphabetic) (html_goes_on HtmlTextTagOpen) no_html))

abbrev pub html_text_open : {R D : Type 0} → StateRows TextByte R D
html_text_open = html_state HtmlTextOpen html_text_open_rows

-- behind `</`
abbrev pub html_text_tag_close_start_rows : {R D : Type 0} → (previous current : Option TextByte) → Rows R D
html_text_tag_close_start_rows = html_rows no_html (when (sees is_ascii_alphabetic) (html_goes_on HtmlTextTagClose) no_html)

abbrev pub html_text_tag_close_start : {R D : Type 0} → StateRows TextByte R D
html_text_tag_close_start = html_state HtmlTextTagCloseStart html_text_tag_close_start_rows

-- in the name of a closing tag
abbrev pub html_text_tag_close_rows : {R D : Type 0} → (previous current : Option TextByte) → Rows R D
html_text_tag_close_rows =
    html_rows (html_line_ends HtmlTextTagCloseBetween.number)
    (when (sees is_tag_name_byte) (html_goes_on HtmlTextTagClose)
    (when (sees is_tag_white) (html_goes_on HtmlTextTagCloseBetween) (when (sees is_greater_than) html_ends no_html)))

abbrev pub html_text_tag_close : {R D : Type 0} → StateRows TextByte R D
html_text_tag_close = html_state HtmlTextTagClose html_text_tag_close_rows

-- behind the name of a closing tag
abbrev pub html_text_tag_close_between_rows : {R D : Type 0} → (previous current : Option TextByte) → Rows R D
html_text_tag_close_between_rows =
    html_rows (html_line_ends HtmlTextTagCloseBetween.number) (when (sees is_tag_white) (html_goes_on HtmlTextTagCloseBetween) (when (sees is_greater_than) html_ends no_html))

abbrev pub html_text_tag_close_between : {R D : Type 0} → StateRows TextByte R D
html_text_tag_close_between = html_state HtmlTextTagCloseBetween html_text_tag_close_between_rows

-- in the name of an opening tag
abbrev pub html_text_tag_open_rows : {R D : Type 0} → (previous current : Option TextByte) → Rows R D
html_text_tag_open_rows =
    html_rows (html_line_ends HtmlTextTagOpenBetween.number)
    (when (sees is_tag_name_byte) (html_goes_on HtmlTextTagOpen)
    (when (sees is_tag_white) (html_goes_on HtmlTextTagOpenBetween)
    (when (sees is_slash) (html_goes_on HtmlTextEnd) (when (sees is_greater_than) html_ends no_html))))

abbrev pub html_text_tag_open : {R D : Type 0} → StateRows TextByte R D
html_text_tag_open = html_state HtmlTextTagOpen html_text_tag_open_rows

-- behind white space in an opening tag: an attribute, or its end
abbrev pub html_text_tag_open_between_rows : {R D : Type 0} → (previous current : Option TextByte) → Rows R D
html_text_tag_open_between_rows =
    html_rows (html_line_ends HtmlTextTagOpenBetween.number)
    (when (sees is_tag_white) (html_goes_on HtmlTextTagOpenBetween)
    (when (sees begins_attribute_name) (html_goes_on HtmlTextTagOpenAttributeName)
    (when (sees is_slash) (html_goes_on HtmlTextEnd) (when (sees is_greater_than) html_ends no_html))))

abbrev pub html_text_tag_open_between : {R D : Type 0} → StateRows TextByte R D
html_text_tag_open_between = html_state HtmlTextTagOpenBetween html_text_tag_open_between_rows

-- in the name of an attribute
abbrev pub html_text_attribute_name_rows : {R D : Type 0} → (previous current : Option TextByte) → Rows R D
html_text_attribute_name_rows =
    html_rows (html_line_ends HtmlTextTagOpenAttributeNameAfter.number)
    (when (sees is_attribute_name_byte) (html_goes_on HtmlTextTagOpenAttributeName)
    (when (sees is_tag_white) (html_goes_on HtmlTextTagOpenAttributeNameAfter)
    (when (sees is_equals_sign) (html_goes_on HtmlTextTagOpenAttributeValueBefore)
    (when (sees is_slash) (html_goes_on HtmlTextEnd) (when (sees is_greater_than) html_ends no_html)))))

abbrev pub html_text_attribute_name : {R D : Type 0} → StateRows TextByte R D
html_text_attribute_name = html_state HtmlTextTagOpenAttributeName html_text_attribute_name_rows

-- behind the name of an attribute, and white space
abbrev pub html_text_attribute_name_after_rows : {R D : Type 0} → (previous current : Option TextByte) → Rows R D
html_text_attribute_name_after_rows =
    html_rows (html_line_ends HtmlTextTagOpenAttributeNameAfter.number)
    (when (sees is_tag_white) (html_goes_on HtmlTextTagOpenAttributeNameAfter)
    (when (sees is_equals_sign) (html_goes_on HtmlTextTagOpenAttributeValueBefore)
    (when (sees begins_attribute_name) (html_goes_on HtmlTextTagOpenAttributeName)
    (when (sees is_slash) (html_goes_on HtmlTextEnd) (when (sees is_greater_than) html_ends no_html)))))

abbrev pub html_text_attribute_name_after : {R D : Type 0} → StateRows TextByte R D
html_text_attribute_name_after = html_state HtmlTextTagOpenAttributeNameAfter html_text_attribute_name_after_rows

-- behind `=`
abbrev pub html_text_value_before_rows : {R D : Type 0} → (previous current : Option TextByte) → Rows R D
html_text_value_before_rows =
    html_rows (html_line_ends HtmlTextTagOpenAttributeValueBefore.number)
    (when (sees is_tag_white) (html_goes_on HtmlTextTagOpenAttributeValueBefore)
    (when (sees is_double_quote) (row (write (quote_is 34) ∷ consume ∷ []) (Next HtmlTextTagOpenAttributeValueQuoted))
    (when (sees is_single_quote) (row (write (quote_is 39) ∷ consume ∷ []) (Next HtmlTextTagOpenAttributeValueQuoted))
    (when (sees is_unquoted) (html_goes_on HtmlTextTagOpenAttributeValueUnquoted) no_html))))

abbrev pub html_text_value_before : {R D : Type 0} → StateRows TextByte R D
html_text_value_before = html_state HtmlTextTagOpenAttributeValueBefore html_text_value_before_rows

-- in a value in quotes
abbrev pub html_text_value_quoted_rows : {R D : Type 0} → (previous current : Option TextByte) → Rows R D
html_text_value_quoted_rows =
    html_rows (html_line_ends HtmlTextTagOpenAttributeValueQuoted.number)
    (when quote_waits (html_goes_on HtmlTextTagOpenAttributeValueQuotedAfter) (html_goes_on HtmlTextTagOpenAttributeValueQuoted))

abbrev pub html_text_value_quoted : {R D : Type 0} → StateRows TextByte R D
html_text_value_quoted = html_state HtmlTextTagOpenAttributeValueQuoted html_text_value_quoted_rows

-- behind it
abbrev pub html_text_value_quoted_after_rows : {R D : Type 0} → (previous current : Option TextByte) → Rows R D
html_text_value_quoted_after_rows =
    html_rows (html_line_ends HtmlTextTagOpenBetween.number)
    (when (sees is_tag_white) (html_goes_on HtmlTextTagOpenBetween)
    (when (sees is_slash) (html_goes_on HtmlTextEnd) (when (sees is_greater_than) html_ends no_html)))

abbrev pub html_text_value_quoted_after : {R D : Type 0} → StateRows TextByte R D
html_text_value_quoted_after = html_state HtmlTextTagOpenAttributeValueQuotedAfter html_text_value_quoted_after_rows

-- in a value with no quotes
abbrev pub html_text_value_unquoted_rows : {R D : Type 0} → (previous current : Option TextByte) → Rows R D
html_text_value_unquoted_rows =
    html_rows (html_line_ends HtmlTextTagOpenBetween.number)
    (when (sees is_unquoted) (html_goes_on HtmlTextTagOpenAttributeValueUnquoted)
    (when (sees is_tag_white) (html_goes_on HtmlTextTagOpenBetween) (when (sees is_greater_than) html_ends no_html)))

abbrev pub html_text_value_unquoted : {R D : Type 0} → StateRows TextByte R D
html_text_value_unquoted = html_state HtmlTextTagOpenAttributeValueUnquoted html_text_value_unquoted_rows

-- behind the slash of an opening tag
abbrev pub html_text_end_rows : {R D : Type 0} → (previous current : Option TextByte) → Rows R D
html_text_end_rows = html_rows no_html (when (sees is_greater_than) html_ends no_html)

abbrev pub html_text_end : {R D : Type 0} → StateRows TextByte R D
html_text_end = html_state HtmlTextEnd html_text_end_rows

-- What its states cost: each reads a byte or ends, and those behind a line ending may go on at the byte that waits
abbrev pub html_tag_prices : List (Price TextByte)
html_tag_prices =
    by_left 0 2 1 ∷ by_left 0 2 1 ∷ by_left 0 2 1 ∷ by_left 0 2 1 ∷ by_left 0 2 1 ∷ by_left 0 2 1 ∷ by_left 0 2 1 ∷ by_left 0 2 1 ∷ by_left 0 2 1
    ∷ by_left 0 2 1 ∷ by_left 0 2 1 ∷ by_left 0 2 1 ∷ by_left 0 2 1 ∷ by_left 0 2 1 ∷ by_left 0 2 2 ∷ by_left 0 2 2 ∷ []

-- How tags are read
abbrev pub html_tags : {R D : Type 0} → Construct Found TextByte R D
html_tags = record {
  grammar = html_tag_grammar;
  begins = is_less_class;
  allowed = if_option html_tag_grammar;
  start = HtmlTextStart;
  otherwise = TextBeforeData;
  states =
      html_text_start ∷ html_text_open ∷ html_text_tag_close_start ∷ html_text_tag_close ∷ html_text_tag_close_between ∷ html_text_tag_open ∷ html_text_tag_open_between
      ∷ html_text_attribute_name ∷ html_text_attribute_name_after ∷ html_text_value_before ∷ html_text_value_quoted ∷ html_text_value_quoted_after
      ∷ html_text_value_unquoted ∷ html_text_end ∷ html_line_ending_after ∷ html_line_ending_after_prefix ∷ [];
  begun = λ name w. name.number == HtmlTextStart.number;
  follows = λ name. false;
}
