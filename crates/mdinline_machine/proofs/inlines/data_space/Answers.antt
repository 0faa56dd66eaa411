use Rattle.std.specs.Prelude.{IfOk}
use Rattle.markdown_tokenizer.specs.Sight.{sight_of}
use Rattle.mdconstructs_tables.specs.RowInvariant.{DoesAll}
use Rattle.mdinline_machine.proofs.Prelude.{◌≡◌, false, Some, sym, ◌∙◌, subst, arith, rules, nat_tests, is_white, is_line_feed}
use Rattle.mdinline_machine.proofs.WhiteBytes.{one_space}
use Rattle.mdinline_machine.proofs.WhitePlays.{seen-step}
use Rattle.mdinline_machine.proofs.inlines.data_space.Goals as goal

pub returns-in-Some : goal.returns-in-Some
returns-in-Some c =
    let t = c.args.t.now in
    let b = c.in-Some.byte in
    let at : (sight_of t).current ≡ Some b = sym c.current.ensures ∙ c.in-Some.is in
    let none : is_white b ≡ false = first_of (grind (arith, nat_tests), grind (arith, nat_tests, c.in-Some.byte-test), search rules) in
    let line : is_line_feed b ≡ false = first_of (grind (arith, nat_tests), grind (arith, nat_tests, c.in-Some.byte-test), search rules) in
    subst (λ s. IfOk c.data_goes_on.result (DoesAll s t c.data_goes_on.new.t)) (sym (seen-step one_space t b at none line)) c.data_goes_on.ensures
