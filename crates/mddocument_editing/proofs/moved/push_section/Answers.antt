use Rattle.mddocument_editing.proofs.Prelude.{moved_by}
use Rattle.mddocument_editing.proofs.SectionFronts.{push-next}
use Rattle.mddocument_editing.proofs.moved.push_section.Goals as goal

pub loop-index-preserved : goal.loop-index-preserved
loop-index-preserved c =
    push-next (moved_by c.args.front) c.loop-index.events.items c.reserve.new.self.items c.push.new.self.items c.args.section.now.events c.loop-index.index c.event.result c.moved.result
    c.event.ensures.event c.moved.ensures c.in_ok-push.ensures.items c.loop-index.invariant
