use Rattle.std.proofs.Common.{◌≡◌, map, take, drop, ◌++◌}
use Rattle.limecove.specs.Editing.{named_of}
use Rattle.limecove.proofs.edits.write_named.Given as goal

abbrev pub invariant-writing : goal.invariant-writing
invariant-writing l = l.named ≡ take l.i (map named_of l.others) ++ drop l.i l.initial.named
