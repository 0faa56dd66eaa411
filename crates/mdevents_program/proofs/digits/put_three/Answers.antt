use Rattle.mdevents_program.proofs.Prelude.{◌++◌, take, ap, ◌∙◌}
use Rattle.mdevents_program.proofs.Numbers.{padded-at}
use Rattle.mdevents_program.proofs.digits.put_three.Goals as goal

pub returns-clause-bytes : goal.returns-clause-bytes
returns-clause-bytes c =
    c.put_block.ensures.bytes ∙ ap (λ x. take c.args.at c.args.bytes.now ++ take 3 x) (padded-at c.args.number _ c.requires.0)
