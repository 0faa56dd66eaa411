use Rattle.std.proofs.Common.{arith, ◌<◌, length}
use Rattle.std.proofs.lemmas.Grind.{common_steps}
use Rattle.limecove.specs.Editing.{named_of}
use Rattle.limecove.proofs.Filling.{fill-more}
use Rattle.limecove.proofs.edits.write_named.Goals as goal

pub writing-preserved : goal.writing-preserved
writing-preserved c =
    let below : c.writing.i < length c.args.named.now = grind (arith, common_steps) in
    let under : c.writing.i < length c.args.others.now = grind (arith, common_steps) in
    rw (c.writing.invariant, c.named_of.ensures) (fill-more named_of c.args.named.now c.args.others.now c.writing.i _ below under)

pub returns-clause-copied : goal.returns-clause-copied
returns-clause-copied c = grind (arith, common_steps)
