use Rattle.markdown_edits.proofs.Prelude.{refl, ◌≡◌, ◌+◌, List, length, length-append, ap, ◌∙◌, Event, pooled, Entry}
use Rattle.markdown_edits.proofs.Results.{OnErr_from}
use Rattle.markdown_edits.proofs.Edits.Pools.{pooled-more, pooled-push}
use Rattle.markdown_edits.proofs.pool.Pool.push.Goals as goal

pub returns-in_err-push-clause-err : goal.returns-in_err-push-clause-err
returns-in_err-push-clause-err c =
    let es = c.self.inside.entries.items in
    OnErr_from _ _ (ap (pooled c.extend_from_slice.new.self.items) c.in_err-push.ensures.items
    ∙ ap (λ (zs : List Event). pooled zs es) c.in_ok-extend_from_slice.ensures.items
    ∙ pooled-more c.self.inside.additions.items c.args.additions.now es c.self.invariant ∙ c.self.view_is)

pub returns-clause-ok : goal.returns-clause-ok
returns-clause-ok c =
    let xs = c.self.inside.additions.items in
    let ys = c.args.additions.now in
    let es = c.self.inside.entries.items in
    let e : Entry = record { index = c.args.index; remove = c.args.remove; start = c.len-start.result; end = c.len-end.result } in
    let end : c.len-end.result ≡ length xs + length ys = c.len-end.ensures ∙ c.extend_from_slice.new.self.ok.0 ∙ ap length c.in_ok-extend_from_slice.ensures.items ∙ length-append xs ys in
    let pushed = pooled-push xs ys es e c.self.invariant (c.len-start.ensures ∙ c.self.inside.additions.ok.0) end in
    rw (c.in_ok-push.ensures.items, c.in_ok-extend_from_slice.ensures.items, pushed, c.self.view_is) refl
