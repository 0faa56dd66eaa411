use Rattle.std.proofs.Common.{◌∙◌, ◌++◌, List, ap, append-nil, refl, sym, ℕ}
use Rattle.std.proofs.lemmas.List.{take_all}
use Rattle.mdinline_labels.specs.Defined.{defines}
use Rattle.mddocument_parts.specs.BothDocuments.{events_by}
use Rattle.mddocument_sinks.proofs.PieceEvents.{events-none}
use Rattle.mddocument_sinks.proofs.Seams.{seam-first}
use Rattle.mddocument_sinks.proofs.reading.hand_on_pieces.Goals as goal

pub loop-seam-init : goal.loop-seam-init
loop-seam-init g c =
    let took = g.S.EventSink.taken c.args.sink.now in
    record {
      reached = record { seam = seam-first c.args.options.now c.args.bytes.now; lines = refl };
      events = sym (append-nil took) ∙ ap (λ es. took ++ es) (sym (events-none c.args.options.now (defines c.args.machine.now.labels)));
    }

pub returns-clause-events : goal.returns-clause-events
returns-clause-events g c =
    let took = g.S.EventSink.taken c.args.sink.now in
    let next = c.in_ok-hand_on_piece.field-0 in
    c.in_ok-hand_on_piece.ensures.events took c.loop-seam.invariant.events
    ∙ ap (λ (part : List ℕ). took ++ events_by c.args.options.now (defines c.args.machine.now.labels) part) (take_all next.bytes c.args.bytes.now c.in_ok-hand_on_piece.ensures.far)
