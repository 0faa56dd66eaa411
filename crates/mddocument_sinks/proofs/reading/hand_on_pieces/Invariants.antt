use Rattle.std.proofs.Common.{◌++◌, ◌≡◌, take}
use Rattle.mdinline_labels.specs.Defined.{defines}
use Rattle.mddocument_parts.specs.BothDocuments.{events_by}
use Rattle.mddocument_sinks.specs.Reached.{IsReached}
use Rattle.mddocument_sinks.proofs.reading.hand_on_pieces.Given as goal

abbrev pub invariant-loop-seam : goal.invariant-loop-seam
invariant-loop-seam g l =
    let taken = g.S.EventSink.taken in
    record {
      reached : IsReached l.options l.bytes l.reached;
      events : taken l.sink ≡ taken l.fn.sink ++ events_by l.options (defines l.machine.labels) (take l.reached.bytes l.bytes);
    }
