use Rattle.markdown_base.specs.declared.state.State.TheVariants.{Retry}
use Rattle.markdown_base.specs.declared.state.TheConstants.Name.{TextBeforeData}
use Rattle.markdown_tokenizer.specs.Sight.{sight_of}
use Rattle.mdconstructs_tables.specs.RowInvariant.{DoesAll}
use Rattle.mdinline_machine.proofs.Prelude.{◌≡◌, false, Some, sym, ◌∙◌, subst, arith, rules, nat_tests, begins_run, is_delimiter, is_line_feed, is_of_bracket, is_white, marked_grammars, some_first}
use Rattle.mdinline_machine.proofs.RunBytes.{no-run}
use Rattle.mdinline_machine.proofs.BeforeSteps.{at-other}
use Rattle.mdinline_machine.proofs.inlines.inline_before.Goals as goal

pub returns-in-Some : goal.returns-in-Some
returns-in-Some c =
    let t = c.args.t.now in
    let b = c.in-Some.field-0 in
    let at : (sight_of t).current ≡ Some b = sym c.current.ensures ∙ c.in-Some.is in
    let line : is_line_feed b ≡ false = first_of (grind (arith, nat_tests), grind (arith, nat_tests, c.in-Some.field-0-test), search rules) in
    let white : is_white b ≡ false = first_of (grind (arith, nat_tests), grind (arith, nat_tests, c.in-Some.field-0-test), search rules) in
    let delimiter : is_delimiter b ≡ false = first_of (grind (arith, nat_tests), grind (arith, nat_tests, c.in-Some.field-0-test), search rules) in
    let run : begins_run t.given.options.constructs b ≡ false = no-run t.given.options.constructs b delimiter in
    let bracket : is_of_bracket b ≡ false = first_of (grind (arith, nat_tests), grind (arith, nat_tests, c.in-Some.field-0-test), search rules) in
    let marked : some_first marked_grammars b ≡ false = first_of (grind (arith, nat_tests), grind (arith, nat_tests, c.in-Some.field-0-test), search rules) in
    subst (λ s. DoesAll s t t (Retry TextBeforeData)) (sym (at-other t b at line white run bracket marked)) (search rules)
