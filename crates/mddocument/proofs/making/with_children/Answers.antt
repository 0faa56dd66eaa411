use Rattle.mddocument.proofs.FlowChains.Contents.{may-start}
use Rattle.mddocument.proofs.making.with_children.Goals as goal

pub with_ready_children-requires-clause-start : goal.with_ready_children-requires-clause-start
with_ready_children-requires-clause-start g c = may-start c.args.content _ c.args.events.items c.requires.start
