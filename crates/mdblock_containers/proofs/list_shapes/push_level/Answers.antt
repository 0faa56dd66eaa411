use Rattle.std.proofs.Common.{◌++◌, ap}
use Rattle.std.specs.Prelude.{replicate}
use Rattle.mdblock_containers.specs.ListSeen.{nothing_seen}
use Rattle.mdblock_containers.proofs.ListSeenLemmas.{last_first}
use Rattle.mdblock_containers.proofs.list_shapes.push_level.Goals as goal

pub returns : goal.returns
returns c = ap (λ ss. replicate c.args.inside nothing_seen ++ ss) (last_first c.push.new.self.items c.args.stack.now.known.items _ c.in_ok-push.ensures.items)
