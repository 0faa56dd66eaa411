use Rattle.std.proofs.Common.{rules, refl}
use Rattle.mdconstructs_tables.proofs.Rows.Calls.{callable}
use Rattle.mdconstructs.specs.Tables.{counts}
use Rattle.mdexamples.specs.Fields.{fields, text_start, data_inside}
use Rattle.mdexamples.proofs.fields.LentFieldsMachine.call.Goals as goal

pub text_start-requires : goal.text_start-requires
text_start-requires c =
    let dividers = c.args.self.now.dividers.now in
    callable (fields dividers) counts (λ local. refl) c.args.name (text_start dividers) _ _ (search rules) refl c.requires.invariant.1 c.begin.ensures

pub data_inside-requires : goal.data_inside-requires
data_inside-requires c =
    let dividers = c.args.self.now.dividers.now in
    callable (fields dividers) counts (λ local. refl) c.args.name (data_inside dividers) _ _ (search rules) refl c.requires.invariant.1 c.begin.ensures
