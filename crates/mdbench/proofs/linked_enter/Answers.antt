use Rattle.mdbench.proofs.Prelude.{◌*◌, ◌<◌, arith}
use Rattle.std.proofs.lemmas.Option.{IfSome_then}
use Rattle.mdbench.proofs.linked_enter.Goals as goal

pub returns : goal.returns
returns c =
    (IfSome_then c.enter_before.result {Q = λ k. k < 2 * c.args.count} c.enter_before.ensures (λ k below. omega (arith, c.requires.inside)), c.enter_behind.ensures)
