-- The table of texts passes the tests, with the numbers of its states, so that the machine is lawful.
use Rattle.std.proofs.Common.{◌≡◌, [], ◌∷◌, Option, Some, refl}
use Rattle.mdconstructs_tables.specs.Late.{IsLate}
use Rattle.mdconstructs_tables.specs.Numbers.{priced_tests}
use Rattle.mdconstructs_tables.specs.PlainWrites.{StatesWritePlain, WritesPlain}
use Rattle.mdconstructs_tables.proofs.Numbers.Enough.{numbered-late}
use Rattle.mdinline_text_machine.specs.AutolinkRows.{autolinks}
use Rattle.mdinline_text_machine.specs.CodeSpanRows.{code_spans}
use Rattle.mdinline_text_machine.specs.Construct.{states_of}
use Rattle.mdinline_text_machine.specs.EscapeRows.{escapes}
use Rattle.mdinline_text_machine.specs.Laws.Autolink.{autolink-writes}
use Rattle.mdinline_text_machine.specs.Laws.CodeSpan.{code-span-writes}
use Rattle.mdinline_text_machine.specs.Laws.Escape.{escape-writes}
use Rattle.mdinline_text_machine.specs.Laws.Parts.{writes-append}
use Rattle.mdinline_text_machine.specs.TextBytes.{TextByte, line_feed, is_backtick_class}
use Rattle.mdinline_text_machine.specs.TextTable.{text_start, text_before, text_before_data, data_at_break, data_inside, text_prices, text_constructs, text_states, texts, begins_construct, follows_construct}

tested : (previous current : Option TextByte) → priced_tests texts is_backtick_class text_prices begins_construct follows_construct previous current ≡ ([], [], [])
tested previous (Some line_feed) = refl
tested previous _ = refl

-- The table fits, and ends its choices late
pub texts-late : IsLate texts begins_construct follows_construct
texts-late =
    numbered-late texts is_backtick_class text_prices begins_construct follows_construct (record {
      priced = (refl, (refl, (refl, (refl, (refl, (refl, (refl, (refl, (refl, (refl, (refl, (refl, (refl, (refl, (refl, (refl, (refl, (refl, (refl, tt)))))))))))))))))));
      falls = refl;
      tested = tested;
      kept = λ local. refl;
    })

-- what states write: those between constructs write nothing
own-write : (previous current : Option TextByte) → StatesWritePlain (text_start ∷ text_before ∷ text_before_data ∷ data_at_break ∷ data_inside ∷ []) previous current
own-write previous (Some line_feed) = tt
own-write previous _ = tt

constructs-write : (previous current : Option TextByte) → StatesWritePlain (states_of text_constructs) previous current
constructs-write b w =
    writes-append b w code_spans.states (states_of (autolinks ∷ escapes ∷ [])) (code-span-writes b w) (writes-append b w autolinks.states (states_of (escapes ∷ [])) (autolink-writes b w) (writes-append b w escapes.states [] (escape-writes b w) tt))

written : (previous current : Option TextByte) → StatesWritePlain text_states previous current
written b w = writes-append b w (text_start ∷ text_before ∷ text_before_data ∷ data_at_break ∷ data_inside ∷ []) (states_of text_constructs) (own-write b w) (constructs-write b w)

pub texts-plain : WritesPlain texts
texts-plain = record { first = λ k h. h; rows = written }
