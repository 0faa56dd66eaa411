use Rattle.mddocument_editing.proofs.Prelude.{arith, take}
use Rattle.mddocument_editing.proofs.FrontSums.{bytes-sum}
use Rattle.mddocument_editing.proofs.moved.front_of_counted.Goals as goal

pub returns-clause-front : goal.returns-clause-front
returns-clause-front g c =
    let is = c.in_front-sums.ensures.sums in
    record {
      lines = omega (arith, is.lines);
      bytes = omega (arith, is.bytes, bytes-sum (take c.args.section c.args.list.now.items));
      events = omega (arith, is.events);
      small = record { lines = omega arith; bytes = omega arith; events = omega arith };
    }
