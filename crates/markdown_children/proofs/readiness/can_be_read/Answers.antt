use Rattle.markdown_children.proofs.Prelude.{◌≡◌, true, sym, ◌∙◌, can_be_read_from, below_more}
use Rattle.markdown_children.proofs.readiness.can_be_read.Goals as goal

pub loop-index-preserved : goal.loop-index-preserved
loop-index-preserved c =
    below_more (λ k. can_be_read_from c.args.starts.now c.args.filter c.args.events.now k ≡ true) c.loop-index.index c.loop-index.invariant
    (sym c.in_ok-can_be_read_at.ensures ∙ c.if-not-branch.false)
