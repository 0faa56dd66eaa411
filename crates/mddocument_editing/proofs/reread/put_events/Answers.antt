use Rattle.mddocument_editing.proofs.Prelude.{◌≡◌, ◌<◌, length, subst, sym, ap, ◌∙◌, arith, rules, map-id, YieldsList-from_vec, fold_push, All-from_recursion, put_all, put_at, Reread}
use Rattle.std.proofs.lemmas.Iterator.Consumers.{YieldsList-end, YieldsList-turn}
use Rattle.mddocument_editing.proofs.reread.put_events.Goals as goal
use Rattle.mddocument_editing.proofs.Rereads.{length-put-all, put-at-set}

pub index_mut-section-requires : goal.index_mut-section-requires
index_mut-section-requires c =
    let others = c.args.others.items in
    let o = c.in-Some.other in
    let n = length c.args.sections.now.items in
    let turn = YieldsList-turn (YieldsList-from_vec {s = c.into_iter-other-iterator.result} others (search rules) (search rules))
    c.loop-other.yielded c.loop-other.other-iterator c.loop-other.yielded_by c.next.result c.next.new.self o c.in-Some.is c.next.ensures.steps in
    let within : o.section < n = subst (λ (x : Reread). x.section < n) (sym turn.1) (All-from_recursion (λ (other : Reread). other.section < n) others c.requires (length c.loop-other.yielded) o turn.0) in
    let same : length c.loop-other.sections.items ≡ n = ap length c.loop-other.invariant ∙ length-put-all c.loop-other.yielded c.args.sections.now.items in
    let len = c.loop-other.sections.ok.0 in
    omega arith

pub loop-other-preserved : goal.loop-other-preserved
loop-other-preserved c =
    let x = c.index_mut-section.result.now in
    let o = c.in-Some.other in
    let old = c.loop-other.sections.items in
    put-at-set old o.section x o c.index_mut-section.ensures.value
    ∙ ap (λ xs. put_at o.section o xs) c.loop-other.invariant
    ∙ sym (fold_push (λ sections other. put_at other.section other sections) c.args.sections.now.items c.loop-other.yielded o)

pub returns : goal.returns
returns c =
    let end = YieldsList-end (YieldsList-from_vec {s = c.into_iter-other-iterator.result} c.args.others.items (search rules) (search rules))
    c.loop-other.yielded c.loop-other.other-iterator c.loop-other.yielded_by c.next.result c.next.new.self c.in-None.is c.next.ensures.steps in
    c.loop-other.invariant ∙ ap (put_all c.args.sections.now.items) (sym (map-id c.loop-other.yielded) ∙ end.0)
