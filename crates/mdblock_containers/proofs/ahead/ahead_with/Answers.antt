use Rattle.std.proofs.Common.{sym, ◌∙◌, cond, suc}
use Rattle.mdblock_containers.proofs.AheadLemmas.{ahead_left, ahead_other}
use Rattle.mdblock_containers.proofs.ahead.ahead_with.Goals as goal

pub returns-then-row-clause-value : goal.returns-then-row-clause-value
returns-then-row-clause-value c = λ number r more is same. ahead_left r more c.args.behind c.further_if-across.result (sym is.is_left_blank ∙ c.if-row.true) same c.further_if-across.ensures.value

pub returns-clause-value : goal.returns-clause-value
returns-clause-value c = λ number r more is same.
    ahead_other r more c.args.behind c.further_if-further.result c.args.row.now.many c.list_before-list.result (sym is.is_left_blank ∙ c.if-row.false) same
    (c.further_if-further.ensures.value ∙ (λ k. cond (is.stays k) (suc c.args.behind.further) 0)) is.many (c.list_before-list.ensures number r is)
