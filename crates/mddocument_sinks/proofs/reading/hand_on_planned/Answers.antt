use Rattle.std.proofs.Common.{◌++◌, ◌≡◌, List, subst}
use Rattle.std.specs.Prelude.{OnErr, OnOk}
use Rattle.markdown_base.specs.declared.event.Event.{Event}
use Rattle.markdown_edits.proofs.Results.{OnErr_from}
use Rattle.mddocument.specs.DocumentEvents.{document_events}
use Rattle.mddocument.specs.Documents.{document}
use Rattle.mddocument_sinks.proofs.PieceEvents.{own-events, took-none}
use Rattle.mddocument_sinks.specs.Taken.{TookFront}
use Rattle.mddocument_sinks.proofs.reading.hand_on_planned.Goals as goal

pub returns-in_err-plan-clause-front : goal.returns-in_err-plan-clause-front
returns-in_err-plan-clause-front g c =
    OnErr_from c.from_residual.result _ (took-none (document_events (document c.args.options.now c.args.bytes.now)) (g.S.EventSink.taken c.args.sink.now))

pub returns-clause-events : goal.returns-clause-events
returns-clause-events g c =
    let taken = g.S.EventSink.taken in
    let own = own-events c.args.options.now c.args.bytes.now c.in_ok-plan.plan.labels c.in_ok-plan.ensures.labels in
    subst (λ (es : List Event). OnOk c.hand_on_pieces.result (taken c.hand_on_pieces.new.sink ≡ taken c.args.sink.now ++ es)) own c.hand_on_pieces.ensures.events

pub returns-clause-front : goal.returns-clause-front
returns-clause-front g c =
    let taken = g.S.EventSink.taken in
    let own = own-events c.args.options.now c.args.bytes.now c.in_ok-plan.plan.labels c.in_ok-plan.ensures.labels in
    subst (λ (es : List Event). OnErr c.hand_on_pieces.result (TookFront es (taken c.args.sink.now) (taken c.hand_on_pieces.new.sink))) own c.hand_on_pieces.ensures.front
