use Rattle.markdown_base.specs.declared.event.Content.TheVariants as content
use Rattle.mddocument.proofs.Prelude.{arith, document, refl, flow_rules, flow-refuses-nothing}
use Rattle.mddocument.proofs.DeepEvents.{no-children-refused, only-memory}
use Rattle.mddocument.proofs.FlowChains.Contents.{may-start-all}
use Rattle.mddocument.proofs.nested.with_leaf_blocks.Goals as goal

pub with_ready_children-requires-clause-start : goal.with_ready_children-requires-clause-start
with_ready_children-requires-clause-start c =
    may-start-all content.Content (flow_rules (document c.args.options.now c.args.bytes.now)).starts c.args.events.items c.requires.content (1, omega arith, refl)

pub returns-clause-err : goal.returns-clause-err
returns-clause-err c =
    only-memory c.with_ready_children.result (λ m e. no-children-refused flow_rules flow-refuses-nothing _ _ _ _ m (c.with_ready_children.ensures.message m e))
    c.with_ready_children.ensures.ready c.with_ready_children.ensures.cause
