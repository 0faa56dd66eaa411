use Rattle.mdinline_labels.specs.Defined.{defines}
use Rattle.mddocument.proofs.Prelude.{err-if, ◌≡◌, ◌∙◌, IfOk-weaker, OfFault, Memory}
use Rattle.mddocument.proofs.DeepEvents.{only-memory, no-inline-refused, flow-inlines, all-chains-ready, all-may-start}
use Rattle.mddocument.proofs.FlowTexts.InlineForms.{inlines-well-formed}
use Rattle.mddocument.proofs.documents.read_flow_and_inlines.Goals as goal

pub returns-in_err-events-clause-err : goal.returns-in_err-events-clause-err
returns-in_err-events-clause-err c =
    let memory : c.in_err-events.field-0.0 ≡ OfFault Memory = c.in_err-events.ensures.err in
    err-if c.from_residual.result _ _ (λ f is. is ∙ memory) c.from_residual.ensures.1

pub with_ready_children-requires-clause-start : goal.with_ready_children-requires-clause-start
with_ready_children-requires-clause-start c = all-may-start c.args.options.now c.args.bytes.now c.read_flow.ensures.document c.in_ok-events.events.items c.in_ok-events.ensures.events (defines c.new.result)

pub with_ready_children-requires-clause-ready : goal.with_ready_children-requires-clause-ready
with_ready_children-requires-clause-ready c = all-chains-ready c.args.options.now c.args.bytes.now c.read_flow.ensures.document c.in_ok-events.events.items c.in_ok-events.ensures.events

pub returns-clause-events : goal.returns-clause-events
returns-clause-events c = IfOk-weaker c.with_ready_children.result _ _ (λ events h.
    flow-inlines c.args.options.now c.args.bytes.now c.read_flow.ensures.document c.in_ok-events.events.items c.in_ok-events.ensures.events (defines c.new.result) c.new.ensures events.items h) c.with_ready_children.ensures.events

pub returns-clause-formed : goal.returns-clause-formed
returns-clause-formed c = IfOk-weaker c.with_ready_children.result _ _ (λ events h.
    inlines-well-formed c.args.options.now c.args.bytes.now c.read_flow.ensures.document events.items
    (flow-inlines c.args.options.now c.args.bytes.now c.read_flow.ensures.document c.in_ok-events.events.items c.in_ok-events.ensures.events (defines c.new.result) c.new.ensures events.items h)) c.with_ready_children.ensures.events

pub returns-clause-err : goal.returns-clause-err
returns-clause-err c =
    only-memory c.with_ready_children.result (λ m e. no-inline-refused _ _ (defines c.new.result) _ _ m (c.with_ready_children.ensures.message m e))
    c.with_ready_children.ensures.ready c.with_ready_children.ensures.cause
