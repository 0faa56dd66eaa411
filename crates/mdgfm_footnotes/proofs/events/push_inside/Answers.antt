use Rattle.mdgfm_footnotes.proofs.Pushed.{pushed}
use Rattle.mdgfm_footnotes.proofs.events.push_inside.Goals as goal

pub returns : goal.returns
returns c =
    pushed c.args.tab c.args.bytes.now c.args.from c.args.to c.place_at-caret.result c.place_at-label.result c.place_at-end.result
    c.event.result c.event-2.result c.event-3.result c.event-4.result c.event-5.result c.event-6.result c.args.out.now.items _ _ _ _ _ _ _ _ _ _
    c.place_at-caret.ensures c.place_at-label.ensures c.place_at-end.ensures
    c.event.ensures c.event-2.ensures c.event-3.ensures c.event-4.ensures c.event-5.ensures c.event-6.ensures
    c.in_ok-push.ensures.items c.in_ok-push-2.ensures.items c.in_ok-push_leaf.ensures c.in_ok-push_leaf-2.ensures c.in_ok-push-3.ensures.items
    c.in_ok-push_leaf-3.ensures c.in_ok-push-4.ensures.items c.in_ok-push_leaf-4.ensures c.in_ok-push-5.ensures.items c.in_ok-push-6.ensures.items
