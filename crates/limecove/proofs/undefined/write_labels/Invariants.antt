use Rattle.std.proofs.Common.{◌≡◌, map, take, drop, ◌++◌}
use Rattle.limecove.specs.Undefined.{label_of}
use Rattle.limecove.proofs.undefined.write_labels.Given as goal

abbrev pub invariant-writing : goal.invariant-writing
invariant-writing l = l.labels ≡ take l.i (map label_of l.references) ++ drop l.i l.initial.labels
