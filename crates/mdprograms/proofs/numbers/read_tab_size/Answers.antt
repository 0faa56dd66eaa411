use Rattle.mdprograms.proofs.Prelude.{arith, nat_tests}
use Rattle.mdprograms.proofs.numbers.read_tab_size.Goals as goal

pub returns : goal.returns
returns c = rw (← c.in_ok-number.ensures.number) (grind (arith, nat_tests, c.new.ensures.taken c.in_ok-number.ensures.some, c.new.ensures.above))
