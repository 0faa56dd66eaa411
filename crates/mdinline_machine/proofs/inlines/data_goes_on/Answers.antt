use Rattle.markdown_base.specs.declared.state.State.TheVariants.{Next}
use Rattle.markdown_base.specs.declared.state.TheConstants.Name.{DataInside}
use Rattle.markdown_tokenizer.specs.Sight.{sight_of}
use Rattle.mdconstructs_tables.specs.RowInvariant.{DoesAll}
use Rattle.mdinline_machine.proofs.Prelude.{◌≡◌, false, Some, sym, ◌∙◌, subst, arith, rules, nat_tests, begins_run, is_delimiter, is_of_bracket, marked_grammars, some_first}
use Rattle.mdinline_machine.proofs.RunBytes.{no-run}
use Rattle.mdinline_machine.proofs.BeforeSteps.{goes-other}
use Rattle.mdinline_machine.proofs.inlines.data_goes_on.Goals as goal

pub returns-in_default : goal.returns-in_default
returns-in_default c =
    let t = c.args.t.now in
    let b = c.args.byte in
    let at : (sight_of t).current ≡ Some b = c.requires.byte in
    let delimiter : is_delimiter b ≡ false = first_of (grind (arith, nat_tests), grind (arith, nat_tests, c.in_default), search rules) in
    let run : begins_run t.given.options.constructs b ≡ false = no-run t.given.options.constructs b delimiter in
    let bracket : is_of_bracket b ≡ false = first_of (grind (arith, nat_tests), grind (arith, nat_tests, c.in_default), search rules) in
    let marked : some_first marked_grammars b ≡ false = first_of (grind (arith, nat_tests), grind (arith, nat_tests, c.in_default), search rules) in
    subst (λ s. DoesAll s t c.consume-in_default.new.self (Next DataInside)) (sym (goes-other t b at run bracket marked)) (search rules)
