use Rattle.mdgfm_tasks.proofs.Pushes.{pushed}
use Rattle.mdgfm_tasks.proofs.events.push_check.Goals as goal

pub returns : goal.returns
returns c =
    pushed c.args.tab c.args.bytes.now c.args.at c.args.found c.place_at-start.result c.place_at-value.result c.place_at-closing.result c.place_at-end.result
    c.value_name.result c.event.result c.event-2.result c.args.out.now.items _ _ _ _ _ _ _
    c.place_at-start.ensures c.place_at-value.ensures c.place_at-closing.ensures c.place_at-end.ensures c.value_name.ensures c.event.ensures c.event-2.ensures
    c.in_ok-push_leaf.ensures c.in_ok-push.ensures.items c.in_ok-push_leaf-2.ensures c.in_ok-push_leaf-3.ensures c.in_ok-push_leaf-4.ensures c.in_ok-push-2.ensures.items
    c.in_ok-push_leaf-5.ensures
