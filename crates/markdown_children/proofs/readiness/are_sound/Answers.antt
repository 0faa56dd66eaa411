use Rattle.markdown_children.proofs.Prelude.{◌≡◌, true, sym, ◌∙◌, is_sound_at, below_more}
use Rattle.markdown_children.proofs.readiness.are_sound.Goals as goal

pub loop-index-preserved : goal.loop-index-preserved
loop-index-preserved c = below_more (λ k. is_sound_at c.args.events.now k ≡ true) c.loop-index.index c.loop-index.invariant (sym c.is_sound_at.ensures ∙ c.if-not-is_sound_at.false)
