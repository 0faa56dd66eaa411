-- What the walk found is told of each column.
use Rattle.mdblock_lines.proofs.BreakLemmas.{reach_within, least_within, breaks_none, breaks_told}
use Rattle.mdblock_lines.proofs.breaks.breaks_in.Goals as goal

pub overflow_sub-from : goal.overflow_sub-from
overflow_sub-from g c = reach_within c.args.t.now c.walk_over-w.result c.walk_over-w.ensures.value

pub returns-then-w-eq0-clause-value : goal.returns-then-w-eq0-clause-value
returns-then-w-eq0-clause-value g c = λ at h. breaks_none c.args.t.now c.walk_over-w.result c.walk_over-w.ensures.value c.if-w-eq0.true at _ h c.args.on.now.thematic_break

pub overflow_sub-result : goal.overflow_sub-result
overflow_sub-result g c = least_within c.args.t.now c.walk_over-w.result c.walk_over-w.ensures.value

pub returns-clause-value : goal.returns-clause-value
returns-clause-value g c = λ at h. breaks_told c.args.t.now c.walk_over-w.result c.walk_over-w.ensures.value c.if-w-eq0.false at h c.args.on.now.thematic_break c.if-not-on.false
