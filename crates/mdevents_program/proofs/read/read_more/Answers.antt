use Rattle.mdevents_program.proofs.Prelude.{◌≤◌, ◌++◌, length, take, length-append, arith}
use Rattle.mdevents_program.proofs.read.read_more.Goals as goal

pub returns-then-count-limit_of-clause-too_long : goal.returns-then-count-limit_of-clause-too_long
returns-then-count-limit_of-clause-too_long g c = λ _.
    let bytes = c.args.bytes.now.items in
    let count = c.in-Ok.count in (
      take count c.read.new.buf,
      c.in-Ok.ensures.bytes.0,
      λ within.
          let all : length (bytes ++ take count c.read.new.buf) ≤ c.limit_of.result = (c.limit_of.ensures _).1 within in
          let had : length bytes ≤ c.limit_of.result = (c.limit_of.ensures _).1 c.requires in
          omega (arith, c.in-Ok.ensures.bound.1, length-append bytes (take count c.read.new.buf), all, had, c.if-count-limit_of.true, c.len.ensures),
    )
