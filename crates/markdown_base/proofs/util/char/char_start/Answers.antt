use Rattle.markdown_base.proofs.Prelude.{◌≤◌, arith}
use Rattle.markdown_base.proofs.CharLemmas.{some_before}
use Rattle.markdown_base.proofs.util.char.char_start.Goals as goal
use Rattle.markdown_base.proofs.util.char.char_start.Goals.{In-loop-start}

-- the byte goes on with a character, so it is not the first
not_first : (c : In-loop-start) → 1 ≤ c.loop-start.start
not_first c = some_before c.args.bytes.now c.loop-start.start c.requires.text (omega arith) c.loop-start-test.ensures.cases.0 c.loop-start-test.ensures.cases.1

pub overflow_sub-start-in-loop-start : goal.overflow_sub-start-in-loop-start
overflow_sub-start-in-loop-start c = not_first c

pub loop-start-smaller : goal.loop-start-smaller
loop-start-smaller c = omega (arith, not_first c)
