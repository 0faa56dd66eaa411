-- The machines whose tables refuse no document, by the test of their rows.
use Rattle.mdconstructs_machines.proofs.Prelude.{◌≡◌, [], Option, Some, None, refl, refusing, RulesRefuseNothing, table-steps, refuse-nothing, nothing-found, LineByte, line_ending, other, lines, lines_rules, lines-none, paragraphs, paragraphs_rules, peek, peek_rules, peek-none, deep, deep_rules, deep-none, back, back_rules, back-none, save, save_rules, save-none}

pub lines-refuse-nothing : RulesRefuseNothing lines_rules
lines-refuse-nothing = refuse-nothing lines_rules (table-steps lines lines-none) (λ g s k r m. nothing-found k m)

paragraphs-none : (previous current : Option LineByte) → refusing paragraphs previous current ≡ []
paragraphs-none previous None = refl
paragraphs-none previous (Some line_ending) = refl
paragraphs-none previous (Some other) = refl

pub paragraphs-refuse-nothing : RulesRefuseNothing paragraphs_rules
paragraphs-refuse-nothing = refuse-nothing paragraphs_rules (table-steps paragraphs paragraphs-none) (λ g s k r m. nothing-found k m)

pub peek-refuses-nothing : RulesRefuseNothing peek_rules
peek-refuses-nothing = refuse-nothing peek_rules (table-steps peek peek-none) (λ g s k r m. nothing-found k m)

pub deep-refuses-nothing : RulesRefuseNothing deep_rules
deep-refuses-nothing = refuse-nothing deep_rules (table-steps deep deep-none) (λ g s k r m. nothing-found k m)

pub back-refuses-nothing : RulesRefuseNothing back_rules
back-refuses-nothing = refuse-nothing back_rules (table-steps back back-none) (λ g s k r m. nothing-found k m)

pub save-refuses-nothing : RulesRefuseNothing save_rules
save-refuses-nothing = refuse-nothing save_rules (table-steps save save-none) (λ g s k r m. nothing-found k m)
