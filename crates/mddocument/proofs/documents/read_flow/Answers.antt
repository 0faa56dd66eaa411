use Rattle.mddocument.proofs.Prelude.{flow_rules, flow-refuses-nothing, no-run-refused, true, IfOk-weaker, whole-flow-is-read}
use Rattle.mddocument.proofs.DeepEvents.{only-memory}
use Rattle.mddocument.proofs.FlowRuns.{run-is-flow}
use Rattle.mddocument.proofs.documents.read_flow.Goals as goal

pub returns-clause-events : goal.returns-clause-events
returns-clause-events c = IfOk-weaker c.read_resolved_by.result _ _ (λ events h. run-is-flow whole-flow-is-read _ c.read_resolved_by.ensures.document events.items h.0 h.1) c.read_resolved_by.ensures.events

pub returns-clause-err : goal.returns-clause-err
returns-clause-err c =
    only-memory c.read_resolved_by.result (λ m e. no-run-refused flow_rules flow-refuses-nothing _ true _ m (c.read_resolved_by.ensures.message m e)) c.read_resolved_by.ensures.ready c.read_resolved_by.ensures.cause
