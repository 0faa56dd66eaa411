-- The look at a line. It makes no event, and says the kind of the line as the name of its block, in `token_1`, or fails at a line of a
-- paragraph. The looks of the constructs go on with it.
use Rattle.std.specs.Prelude.{ℕ, [], ◌∷◌}
use Rattle.markdown_base.specs.declared.event.Name.TheVariants.{BlankLineEnding, CodeIndented}
use Rattle.markdown_base.specs.declared.state.State.TheVariants.{Next, Ok, Nok}
use Rattle.markdown_base.specs.declared.state.TheConstants.Name.{FlowBlankLineBefore, FlowBeforeThematicBreak, FlowBeforeHeadingSetext, FlowBeforeHeadingAtx, FlowBeforeRaw, HtmlFlowOpen}
use Rattle.mdblock_leaf_rows.specs.declared.names.TheConstants.{ParagraphLookStart}
use Rattle.mdconstructs_tables.specs.Cases.{at}
use Rattle.mdconstructs_tables.specs.Rows.{consume, write, Rows, row, when, at_bytes, a_choice, StateRows, costs, state}
use Rattle.mdblock_leaf_rows.specs.FlowBytes.{FlowByte, is_line_feed, is_blank, is_sign, is_star, is_underscore, is_dash, is_equals, is_tick, is_tilde, is_less, Cased, cased}
use Rattle.mdblock_leaf_rows.specs.FlowCosts.{looking, at_next_line}
use Rattle.mdblock_leaf_rows.specs.FlowWrites.{kind_becomes, mark_becomes, indent_becomes, indent_grows, size_becomes, headings_are_on, underlines_are_on, breaks_are_on, fences_are_on, is_indented}
use Rattle.mdblock_leaf_rows.specs.HtmlWrites.{html_is_on}

-- a number sign may begin a heading
abbrev pub heading_may_begin : {R D : Type 0} → Rows R D
heading_may_begin = when is_indented (row (write (kind_becomes CodeIndented) ∷ []) Ok) (when headings_are_on (row (write (size_becomes 1) ∷ consume ∷ []) (Next FlowBeforeHeadingAtx)) (row [] Nok))

-- this mark may begin a thematic break
abbrev pub break_may_begin : {R D : Type 0} → (byte : ℕ) → Rows R D
break_may_begin byte = when is_indented (row (write (kind_becomes CodeIndented) ∷ []) Ok) (when breaks_are_on (row (write (mark_becomes byte) ∷ write (size_becomes 1) ∷ consume ∷ []) (Next FlowBeforeThematicBreak)) (row [] Nok))

-- a less-than sign may begin HTML
abbrev pub html_may_begin : {R D : Type 0} → Rows R D
html_may_begin = when is_indented (row (write (kind_becomes CodeIndented) ∷ []) Ok) (when html_is_on (row (consume ∷ []) (Next HtmlFlowOpen)) (row [] Nok))

-- any other byte begins a line of a paragraph, or of indented code
abbrev pub text_may_begin : {R D : Type 0} → Rows R D
text_may_begin = when is_indented (row (write (kind_becomes CodeIndented) ∷ []) Ok) (row [] Nok)

-- this mark may begin the underline of a heading
abbrev pub underline_may_begin : {R D : Type 0} → (byte : ℕ) → Rows R D
underline_may_begin byte = when is_indented (row (write (kind_becomes CodeIndented) ∷ []) Ok) (row (write (mark_becomes byte) ∷ write (size_becomes 1) ∷ consume ∷ []) (Next FlowBeforeHeadingSetext))

-- a dash may begin an underline or a thematic break, and an equals sign only an underline
abbrev pub dash_may_begin : {R D : Type 0} → Rows R D
dash_may_begin = when underlines_are_on (underline_may_begin 45) (break_may_begin 45)

abbrev pub equals_may_begin : {R D : Type 0} → Rows R D
equals_may_begin = when underlines_are_on (underline_may_begin 61) text_may_begin

-- this mark may begin a fence
abbrev pub fence_may_begin : {R D : Type 0} → (byte : ℕ) → Rows R D
fence_may_begin byte = when is_indented (row (write (kind_becomes CodeIndented) ∷ []) Ok) (when fences_are_on (row (write (mark_becomes byte) ∷ write (size_becomes 1) ∷ consume ∷ []) (Next FlowBeforeRaw)) (row [] Nok))

-- a look at a line: over its indentation, and on by its first other byte
abbrev pub flow_blank_line_before_rows : {R D : Type 0} → Cased R D
flow_blank_line_before_rows = record {
  at_end = row (write (kind_becomes BlankLineEnding) ∷ []) Ok;
  cases =
      at is_line_feed (row (write (kind_becomes BlankLineEnding) ∷ []) Ok)
      ∷ at is_blank (row (write indent_grows ∷ consume ∷ []) (Next FlowBlankLineBefore))
      ∷ at is_sign heading_may_begin
      ∷ at is_star (break_may_begin 42)
      ∷ at is_underscore (break_may_begin 95)
      ∷ at is_dash dash_may_begin
      ∷ at is_equals equals_may_begin
      ∷ at is_tick (fence_may_begin 96)
      ∷ at is_tilde (fence_may_begin 126)
      ∷ at is_less html_may_begin ∷ [];
  rest = text_may_begin;
}

abbrev pub flow_blank_line_before : {R D : Type 0} → StateRows FlowByte R D
flow_blank_line_before = record (state FlowBlankLineBefore (cased flow_blank_line_before_rows) [] (costs (looking 2))) { needs = a_choice }

-- a look at the next line, from the line ending in a paragraph
abbrev pub paragraph_look_start_rows : {R D : Type 0} → Cased R D
paragraph_look_start_rows = record {
  at_end = row [] Ok;
  cases = at is_line_feed (row (write (indent_becomes 0) ∷ consume ∷ []) (Next FlowBlankLineBefore)) ∷ [];
  rest = row [] Ok;
}

abbrev pub paragraph_look_start : {R D : Type 0} → StateRows FlowByte R D
paragraph_look_start = record (state ParagraphLookStart (cased paragraph_look_start_rows) [] (costs (at_next_line 3))) { needs = a_choice; called = at_bytes is_line_feed }
