-- The machine of texts looks no further than the byte that waits: its tests take nothing of the document but the options.
use Rattle.std.specs.List.{AllByRecursion}
use Rattle.mdinline_text_machine.proofs.Prelude.{Option, Some, None, refl, ap}
use Rattle.markdown_base.specs.declared.configuration.ParseOptions.{ParseOptions}
use Rattle.markdown_tokenizer.specs.Alike.{LooksNoFurther}
use Rattle.mdconstructs_tables.specs.Joined.{has_state}
use Rattle.mdconstructs_tables.specs.NoFurther.{IsAnsweredAlike, tests}
use Rattle.mdconstructs_tables.proofs.Tables.NoFurther.{joined-looks, steps-alike}
use Rattle.mdconstructs_tables.specs.Tables as line
use Rattle.mdinline_text_machine.specs.AutolinkRows.{autolinks_are_on, has_room, has_scheme}
use Rattle.mdinline_text_machine.specs.CodeSpanRows.{code_spans_are_on, sizes_are_equal}
use Rattle.mdinline_text_machine.specs.EscapeRows.{escapes_are_on}
use Rattle.mdinline_text_machine.specs.TextBytes.{TextByte, line_feed, backtick, less, greater, backslash, colon, letter, digit, mark, ampersand, white, punctuation, blank, other}
use Rattle.mdinline_text_machine.specs.TextRules.{flow, flow_rules, inline_rules, text_rules}
use Rattle.mdinline_text_machine.specs.TextTable.{texts}

flow-tests : (previous current : Option line.LineByte) → AllByRecursion IsAnsweredAlike (tests flow.states previous current)
flow-tests previous None = tt
flow-tests previous (Some line.line_ending) = ((λ g h s k alike. refl), tt)
flow-tests previous (Some line.other) = ((λ g h s k alike. refl), ((λ g h s k alike. refl), tt))

pub sizes : IsAnsweredAlike {R = Unit {0}} {D = Unit {0}} sizes_are_equal
sizes g h s k alike = refl

pub scheme : IsAnsweredAlike {R = Unit {0}} {D = Unit {0}} has_scheme
scheme g h s k alike = refl

pub room : IsAnsweredAlike {R = Unit {0}} {D = Unit {0}} has_room
room g h s k alike = refl

pub code-spans : IsAnsweredAlike {R = Unit {0}} {D = Unit {0}} code_spans_are_on
code-spans g h s k alike = ap (λ (o : ParseOptions). o.constructs.code_text) alike.options

pub autolinks : IsAnsweredAlike {R = Unit {0}} {D = Unit {0}} autolinks_are_on
autolinks g h s k alike = ap (λ (o : ParseOptions). o.constructs.autolink) alike.options

pub escapes : IsAnsweredAlike {R = Unit {0}} {D = Unit {0}} escapes_are_on
escapes g h s k alike = ap (λ (o : ParseOptions). o.constructs.character_escape) alike.options

texts-tests : (previous current : Option TextByte) → AllByRecursion IsAnsweredAlike (tests texts.states previous current)
texts-tests previous None = (sizes, tt)
texts-tests previous (Some line_feed) = (sizes, tt)
texts-tests previous (Some backtick) = (code-spans, tt)
texts-tests previous (Some less) = (autolinks, (sizes, tt))
texts-tests previous (Some greater) = (sizes, tt)
texts-tests previous (Some backslash) = (escapes, (sizes, tt))
texts-tests previous (Some colon) = (sizes, (scheme, tt))
texts-tests previous (Some letter) = (sizes, (room, tt))
texts-tests previous (Some digit) = (sizes, (room, tt))
texts-tests previous (Some mark) = (sizes, (room, tt))
texts-tests previous (Some ampersand) = (sizes, tt)
texts-tests previous (Some white) = (sizes, tt)
texts-tests previous (Some punctuation) = (sizes, tt)
texts-tests previous (Some blank) = (sizes, tt)
texts-tests previous (Some other) = (sizes, tt)

pub texts-look : LooksNoFurther text_rules
texts-look = joined-looks (has_state flow.states) flow_rules inline_rules (λ g h text k name is alike. steps-alike flow flow-tests g h _ k name alike)
    (λ g h text k name is alike. steps-alike texts texts-tests g h _ k name alike)
