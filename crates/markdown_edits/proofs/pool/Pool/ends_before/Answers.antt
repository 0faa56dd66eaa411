use Rattle.markdown_edits.proofs.Prelude.{◌-◌, ◌<◌, length, sym, subst, arith, ltb-true, slice_get_within, AllByRecursion, Edit, IsAscending}
use Rattle.markdown_edits.proofs.Edits.Pools.{all-before}
use Rattle.markdown_edits.proofs.pool.Pool.ends_before.Goals as goal

pub returns-in-Some-clause-all : goal.returns-in-Some-clause-all
returns-in-Some-clause-all c = λ t.
    let es = c.self.inside.entries.items in
    let at = rw c.deref.ensures.value at c.in-Some.ensures.value in
    let some : length es - 1 < length es = slice_get_within es (length es - 1) c.in-Some.entry.now (sym at) in
    subst (AllByRecursion (λ (e : Edit). e.index < c.args.index)) c.self.view_is
    (all-before c.self.inside.additions.items es (length es - 1) c.in-Some.entry.now c.args.index (omega (arith, some)) at
    (subst IsAscending (sym c.self.view_is) c.requires) (ltb-true c.in-Some.entry.now.index c.args.index t))
