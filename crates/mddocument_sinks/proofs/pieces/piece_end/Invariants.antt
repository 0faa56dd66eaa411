use Rattle.std.proofs.Common.{◌-◌, ◌≤◌, length}
use Rattle.mddocument_sinks.specs.Seams.{IsSeam}
use Rattle.mddocument_sinks.proofs.pieces.piece_end.Given as goal

abbrev pub invariant-loop-end : goal.invariant-loop-end
invariant-loop-end l = record {
  order : l.start ≤ l.end;
  seam : IsSeam l.options l.bytes l.end;
}

abbrev pub decreases-loop-end : goal.decreases-loop-end
decreases-loop-end l = length l.bytes - l.end
