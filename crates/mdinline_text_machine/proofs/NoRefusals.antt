-- The tables of texts and of paragraphs refuse no document, by the test of their rows.
use Rattle.mdinline_text_machine.proofs.Prelude.{◌≡◌, [], Option, Some, None, refl, has_state, refusing, RulesRefuseNothing, table_step, table-steps, refuse-nothing, either-step, nothing-found, LineByte, TextByte, line_feed, texts, flow, text_rules}
use Rattle.mdconstructs_tables.specs.Tables as lines

flow-none : (previous current : Option LineByte) → refusing flow previous current ≡ []
flow-none previous None = refl
flow-none previous (Some lines.line_ending) = refl
flow-none previous (Some lines.other) = refl

texts-none : (previous current : Option TextByte) → refusing texts previous current ≡ []
texts-none previous (Some line_feed) = refl
texts-none previous _ = refl

pub text-refuses-nothing : RulesRefuseNothing text_rules
text-refuses-nothing =
    refuse-nothing text_rules
    (λ g s k name. either-step (has_state flow.states name) (table_step flow g s k name) (table_step texts g s k name) (table-steps flow flow-none g s k name) (table-steps texts texts-none g s k name))
    (λ g s k r m. nothing-found k m)
