use Rattle.std.specs.Prelude.{IfOk, is_some}
use Rattle.markdown_tokenizer.specs.Sight.{sight_of}
use Rattle.mdconstructs_tables.specs.RowInvariant.{DoesAll}
use Rattle.mdinline_machine.proofs.Prelude.{◌≡◌, false, true, sym, subst, arith, rules, nat_tests, is_white, is_line_feed, passes}
use Rattle.mdinline_machine.proofs.WhiteBytes.{one_space}
use Rattle.mdinline_machine.proofs.WhitePlays.{noted-step}
use Rattle.mdinline_machine.proofs.inlines.text_space.Goals as goal

pub returns-in-Some : goal.returns-in-Some
returns-in-Some c =
    let t = c.args.t.now in
    let some : is_some (sight_of t).current ≡ true = first_of (search rules, grind (arith, nat_tests)) in
    let none : passes is_white (sight_of t).current ≡ false = first_of (search rules, grind (arith, nat_tests)) in
    let line : passes is_line_feed (sight_of t).current ≡ false = first_of (search rules, grind (arith, nat_tests)) in
    subst (λ s. IfOk c.data_at_noted.result (DoesAll s t c.data_at_noted.new.t)) (sym (noted-step one_space t some none line)) c.data_at_noted.ensures
