use Rattle.markdown_base.proofs.Prelude.{arith, sym, ◌∙◌}
use Rattle.markdown_base.proofs.Cuts.{spaces-in_one_tab, spaces-behind_start, at_lower_index, not_behind}
use Rattle.markdown_base.proofs.util.slice.spaces_before.Goals as goal

pub returns-then-start-end : goal.returns-then-start-end
returns-then-start-end c =
    let p = c.args.start.now in
    let q = c.args.end.now in
    λ bytes start end. sym (spaces-in_one_tab c.args.t c.requires.tab bytes p q end (omega arith) c.if-start-end.true (not_behind p q c.requires.ordered c.if-start-end.true))

pub returns-else-start-end : goal.returns-else-start-end
returns-else-start-end c =
    let p = c.args.start.now in
    let q = c.args.end.now in
    λ bytes start end. c.tab_width.ensures.width ∙ sym (spaces-behind_start c.args.t c.requires.tab bytes p q start (omega arith) (at_lower_index p q c.requires.ordered c.if-start-end.false))
