use Rattle.markdown_edits.proofs.Prelude.{arith, rules}
use Rattle.markdown_edits.proofs.skip.to.Goals as goal

pub loop-first-init : goal.loop-first-init
loop-first-init c = record { order = omega arith; within = search rules; passed = λ k d a b. absurd (omega (arith, a, b)) }
