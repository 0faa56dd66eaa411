-- Rows that read hard breaks by a backslash; and whether those by spaces are on.
use Rattle.std.specs.Prelude.{◌==◌, Bool, false, List, [], ◌∷◌, Option, Some}
use Rattle.markdown_base.specs.declared.event.Name.TheVariants.{HardBreakEscape}
use Rattle.markdown_base.specs.declared.state.State.TheVariants.{Next, Ok, Nok}
use Rattle.markdown_base.specs.declared.state.TheConstants.Name.{TextBeforeData, HardBreakEscapeStart, HardBreakEscapeAfter}
use Rattle.markdown_tokenizer.specs.Text.{Given}
use Rattle.markdown_tokenizer.specs.Configuration.{Configuration}
use Rattle.markdown_tokenizer.specs.Sight.{Sight}
use Rattle.mdconstructs_tables.specs.Rows.{enter, exit, consume, Rows, row, at_bytes, StateRows, state}
use Rattle.mdconstructs_tables.specs.Numbers.{Price, by_left}
use Rattle.mdinline_text_machine.specs.Construct.{Found, Construct, if_option, tried}
use Rattle.mdinline_text_machine.specs.TextBytes.{TextByte, line_feed, is_backslash_class}
use Rattle.mdinline_text_machine.specs.TextCosts.{text_cost}
use Rattle.mdinline_constructs.specs.HardBreak.{break_escape_grammar}

-- the options have them on
abbrev pub break_escapes_are_on : {R D : Type 0} → Given → Sight → Configuration R D → Bool
break_escapes_are_on g s k = g.options.constructs.hard_break_escape

-- It begins with a backslash
abbrev pub break_escape_start_rows : {R D : Type 0} → (previous current : Option TextByte) → Rows R D
break_escape_start_rows _ _ = row (enter HardBreakEscape ∷ consume ∷ []) (Next HardBreakEscapeAfter)

-- its state: it is called only at a backslash, and no span is open yet
abbrev pub break_escape_start : {R D : Type 0} → StateRows TextByte R D
break_escape_start =
    tried (record (state HardBreakEscapeStart break_escape_start_rows [] (text_cost (by_left 0 1 1))) { called = at_bytes is_backslash_class })

-- a line ending follows it
abbrev pub break_escape_after_rows : {R D : Type 0} → (previous current : Option TextByte) → Rows R D
break_escape_after_rows _ (Some line_feed) = row (exit HardBreakEscape ∷ []) Ok
break_escape_after_rows _ _ = row [] Nok

-- its state: the hard break is open
abbrev pub break_escape_after : {R D : Type 0} → StateRows TextByte R D
break_escape_after =
    tried (state HardBreakEscapeAfter break_escape_after_rows (HardBreakEscape ∷ []) (text_cost (by_left 0 1 1)))

-- What its states cost: each reads a byte or ends
abbrev pub break_escape_prices : List (Price TextByte)
break_escape_prices = by_left 0 1 1 ∷ by_left 0 1 1 ∷ []

-- How hard breaks by a backslash are read
abbrev pub break_escapes : {R D : Type 0} → Construct Found TextByte R D
break_escapes = record {
  grammar = break_escape_grammar;
  begins = is_backslash_class;
  allowed = if_option break_escape_grammar;
  start = HardBreakEscapeStart;
  otherwise = TextBeforeData;
  states = break_escape_start ∷ break_escape_after ∷ [];
  begun = λ name w. name.number == HardBreakEscapeStart.number;
  follows = λ name. false;
}

-- the options have those by spaces on
abbrev pub trailing_breaks_are_on : {R D : Type 0} → Given → Sight → Configuration R D → Bool
trailing_breaks_are_on g s k = g.options.constructs.hard_break_trailing
