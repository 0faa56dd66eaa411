use Rattle.markdown_edits.proofs.Prelude.{◌++◌, List, ap, ◌∙◌, Event, pooled}
use Rattle.markdown_edits.proofs.Edits.Pools.{parts-both, pooled-both}
use Rattle.markdown_edits.proofs.pool.Pool.append.Goals as goal

pub invariant_of-self-2 : goal.invariant_of-self-2
invariant_of-self-2 c =
    parts-both _ _ _ _ _ _ _ _ (c.in_ok-append.ensures.items ∙ ap (λ (zs : List Event). zs ++ c.more.inside.additions.items) c.reserve.ensures.items) c.in_ok-push_shifted.ensures.ok
    c.as_slice.ensures.value (c.len-shift.ensures ∙ c.self.inside.additions.ok.0) c.self.invariant c.more.invariant

pub returns-clause-ok : goal.returns-clause-ok
returns-clause-ok c =
    let both = pooled-both _ _ _ _ _ _ _ _ (c.in_ok-append.ensures.items ∙ ap (λ (zs : List Event). zs ++ c.more.inside.additions.items) c.reserve.ensures.items) c.in_ok-push_shifted.ensures.ok
    c.as_slice.ensures.value (c.len-shift.ensures ∙ c.self.inside.additions.ok.0) c.self.invariant in
    rw (← c.self.view_is, ← c.more.view_is) (both, ap (pooled c.append.new.other.items) c.clear-2.ensures.items)
