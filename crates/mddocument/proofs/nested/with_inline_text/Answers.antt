use Rattle.mdinline_labels.specs.Defined.{defines}
use Rattle.mddocument.proofs.Prelude.{arith, document, inlines_rules}
use Rattle.mddocument.proofs.DeepEvents.{no-inline-refused, only-memory}
use Rattle.mddocument.proofs.FlowTexts.Textual.{may-start-each}
use Rattle.mddocument.proofs.nested.with_inline_text.Goals as goal

pub with_ready_children-requires-clause-start : goal.with_ready_children-requires-clause-start
with_ready_children-requires-clause-start c = may-start-each (inlines_rules (defines c.args.machine.now.labels) (document c.args.options.now c.args.bytes.now)).starts (0, omega arith, (cc)) (1, omega arith, (cc)) c.args.events.items c.requires.texts

pub returns-clause-err : goal.returns-clause-err
returns-clause-err c =
    only-memory c.with_ready_children.result (λ m e. no-inline-refused _ _ (defines c.args.machine.now.labels) _ _ m (c.with_ready_children.ensures.message m e))
    c.with_ready_children.ensures.ready c.with_ready_children.ensures.cause
