use Rattle.mdevents_program.proofs.Prelude.{◌+◌, ◌≤◌, length, arith}
use Rattle.mdevents_program.proofs.last_point.write_line.Goals as goal

pub put_block-requires-clause-room : goal.put_block-requires-clause-room
put_block-requires-clause-room c =
    let line = c.put_number-at in
    let room : line.result + 4 ≤ length line.new.bytes = omega (arith, c.told-bytes, line.auto.bytes, line.ensures.most) in
    room

pub returns-clause-most : goal.returns-clause-most
returns-clause-most c = omega (arith, c.put_number-at.ensures.most, c.put_block.ensures.behind)
