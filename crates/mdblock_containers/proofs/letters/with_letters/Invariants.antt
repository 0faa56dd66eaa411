use Rattle.std.proofs.Common.{◌≡◌, take}
use Rattle.mdblock_containers.specs.Letters.{with_letters}
use Rattle.mdblock_containers.proofs.letters.with_letters.Given as goal

abbrev pub invariant-loop-index : goal.invariant-loop-index
invariant-loop-index l = l.all.items ≡ with_letters (take l.index-index l.indices) l.bytes
