use Rattle.std.proofs.Common.{arith, ◌<◌, length}
use Rattle.std.proofs.lemmas.Grind.{common_steps}
use Rattle.limecove.specs.Undefined.{label_of}
use Rattle.limecove.proofs.Filling.{fill-more}
use Rattle.limecove.proofs.undefined.write_labels.Goals as goal

pub writing-preserved : goal.writing-preserved
writing-preserved c =
    let below : c.writing.i < length c.args.labels.now = grind (arith, common_steps) in
    let under : c.writing.i < length c.args.references.now = grind (arith, common_steps) in
    rw (c.writing.invariant, c.label_of.ensures) (fill-more label_of c.args.labels.now c.args.references.now c.writing.i _ below under)

-- for wrong bodies: the search finds this, and takes long where it is false
pub returns-clause-written : goal.returns-clause-written
returns-clause-written c = grind (arith, common_steps)
