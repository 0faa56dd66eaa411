use Rattle.markdown_edits.proofs.Prelude.{◌≡◌, ◌+◌, ◌-◌, [], ◌++◌, drop, append-nil, sym, ap, subst, ◌∙◌, arith, drop_all, shifts, AreShifts, added_by, pooled}
use Rattle.markdown_edits.proofs.Edits.Shifts.{AreShifts-shifts}
use Rattle.markdown_edits.proofs.Edits.Turns.{next_edit}
use Rattle.markdown_edits.proofs.shift.shifts_of.Goals as goal

pub overflow_add-removed : goal.overflow_add-removed
overflow_add-removed c =
    let i = c.loop-edit.invariant.rest in
    let next = next_edit c.args.additions.now c.args.edits.now c.loop-edit.edit-index i.0 c.args.len c.loop-edit-test.true i.2 in
    omega (arith, next.0, next.1, i.1, c.ranges.len.fits)

pub overflow_add-edit : goal.overflow_add-edit
overflow_add-edit c =
    let i = c.loop-edit.invariant.rest in
    let next = next_edit c.args.additions.now c.args.edits.now c.loop-edit.edit-index i.0 c.args.len c.loop-edit-test.true i.2 in
    omega (arith, next.1, c.ranges.len.fits)

pub returns-clause-fits : goal.returns-clause-fits
returns-clause-fits c =
    let xs = c.args.additions.now in
    let none : drop c.loop-edit.edit-index c.args.edits.now ≡ [] = drop_all c.loop-edit.edit-index c.args.edits.now (omega (arith, c.loop-edit-test.false)) in
    let i = c.loop-edit.invariant in
    let all = pooled xs c.args.edits.now in
    let whole : c.loop-edit.shifts.items ≡ shifts 0 0 all =
    sym (append-nil c.loop-edit.shifts.items) ∙ ap (λ es. c.loop-edit.shifts.items ++ shifts c.loop-edit.removed (c.loop-edit.total - c.args.len) (pooled xs es)) (sym none) ∙ i.built in
    let sum : c.loop-edit.total + 0 ≡ c.args.len + added_by all = ap (λ es. c.loop-edit.total + added_by (pooled xs es)) (sym none) ∙ i.sum in
    subst (AreShifts c.args.len 0) (sym whole) (AreShifts-shifts all 0 0 0 c.args.len c.requires.disjoint (omega arith) (omega (arith, sum, c.loop-edit.auto.total-fits)))
