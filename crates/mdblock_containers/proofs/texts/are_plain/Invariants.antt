use Rattle.std.proofs.Common.{◌≡◌, true, take}
use Rattle.std.specs.List.{prefix_len}
use Rattle.mdblock_containers.specs.Letters.{is_plain}
use Rattle.mdblock_containers.proofs.texts.are_plain.Given as goal

-- if all are greater so far, all are plain
abbrev pub invariant-loop-byte : goal.invariant-loop-byte
invariant-loop-byte l = l.all ≡ true → prefix_len is_plain (take l.byte-index l.t) ≡ l.byte-index
