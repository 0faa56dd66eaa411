use Rattle.mdinline_labels.specs.Defined.{defines}
use Rattle.mdinline_machine.proofs.InlineChains.{chains-read-inline}
use Rattle.mddocument.proofs.Prelude.{IfOk-weaker, document}
use Rattle.mddocument.proofs.DeepEvents.{no-inline-refused, only-memory}
use Rattle.mddocument.proofs.documents.with_texts_read.Goals as goal

pub returns-clause-events : goal.returns-clause-events
returns-clause-events c =
    let g = document c.args.options.now c.args.bytes.now in
    let events = c.args.events.items in
    IfOk-weaker c.with_ready_children.result _ _ (λ new h. chains-read-inline (defines c.args.machine.now.labels) g events c.requires.document c.requires.ready new.items h.1.0 h.1.1) c.with_ready_children.ensures.events

pub returns-clause-err : goal.returns-clause-err
returns-clause-err c =
    only-memory c.with_ready_children.result (λ m e. no-inline-refused _ _ (defines c.args.machine.now.labels) _ _ m (c.with_ready_children.ensures.message m e))
    c.with_ready_children.ensures.ready c.with_ready_children.ensures.cause
