use Rattle.std.proofs.Common.{arith}
use Rattle.std.specs.Prelude.{reverse}
use Rattle.mdblock_containers.specs.ListSeen.{known_from}
use Rattle.mdblock_containers.proofs.ListSeenLemmas.{none_first}
use Rattle.mdblock_containers.proofs.list_shapes.take_last.Goals as goal

pub returns-then-stack-gt0 : goal.returns-then-stack-gt0
returns-then-stack-gt0 c =
    let first = none_first c.args.stack.now.inside (known_from (reverse c.args.stack.now.known.items)) (omega (arith, c.if-stack-gt0.true)) in
    record { last = first.0; others = first.1 }
