use Rattle.mdevents_program.proofs.Prelude.{◌+◌, ◌≤◌, length, take, arith}
use Rattle.mdevents_program.proofs.Points.{column-at-byte, column-front, column-is}
use Rattle.mdevents_program.proofs.last_point.write_column.Goals as goal

pub put_block-at-requires-clause-room : goal.put_block-at-requires-clause-room
put_block-at-requires-clause-room c =
    let column = c.put_number-at in
    let room : column.result + 4 ≤ length column.new.bytes = omega (arith, c.requires, c.told-bytes, column.auto.bytes, column.ensures.most) in
    room

pub put_number-at-requires-2 : goal.put_number-at-requires-2
put_number-at-requires-2 c =
    let column = c.put_number-at in let space = c.put_block-at in
    omega (arith, c.requires, c.told-bytes, column.auto.bytes, column.ensures.most, space.auto.bytes, space.ensures.behind)

pub put_block-requires-clause-room : goal.put_block-requires-clause-room
put_block-requires-clause-room c =
    let column = c.put_number-at in let space = c.put_block-at in let index = c.put_number-at-2 in
    let room : index.result + 4 ≤ length index.new.bytes =
    omega (arith, c.requires, c.told-bytes, column.auto.bytes, column.ensures.most, space.auto.bytes, space.ensures.behind, index.auto.bytes, index.ensures.most) in
    room

pub returns-then-point-eq0-clause-text : goal.returns-then-point-eq0-clause-text
returns-then-point-eq0-clause-text c =
    column-at-byte c.args.point.now (take c.args.at c.args.bytes.now) _ _ _ _ c.if-point-eq0.true c.put_number-at.ensures.bytes c.put_block-at.ensures.bytes c.put_number-at-2.ensures.bytes c.put_block.ensures.bytes

pub returns-then-point-eq0-clause-most : goal.returns-then-point-eq0-clause-most
returns-then-point-eq0-clause-most c =
    let column = c.put_number-at in let space = c.put_block-at in let index = c.put_number-at-2 in (
      omega (arith, column.ensures.len, space.ensures.behind, index.ensures.len, c.put_block.ensures.behind),
      omega (arith, column.ensures.most, space.ensures.behind, index.ensures.most, c.put_block.ensures.behind),
    )

pub returns-then-point-eq0-clause-front : goal.returns-then-point-eq0-clause-front
returns-then-point-eq0-clause-front c =
    column-front c.args.point.now c.args.bytes.now _ c.args.at _ (omega (arith, c.requires, c.told-bytes)) (returns-then-point-eq0-clause-most c).0 (returns-then-point-eq0-clause-text c)

pub put_block-at-requires-2-clause-room : goal.put_block-at-requires-2-clause-room
put_block-at-requires-2-clause-room c =
    let column = c.put_number-at in let space = c.put_block-at in let index = c.put_number-at-2 in
    let room : index.result + 4 ≤ length index.new.bytes =
    omega (arith, c.requires, c.told-bytes, column.auto.bytes, column.ensures.most, space.auto.bytes, space.ensures.behind, index.auto.bytes, index.ensures.most) in
    room

pub put_number-at-requires-3 : goal.put_number-at-requires-3
put_number-at-requires-3 c =
    let column = c.put_number-at in let space = c.put_block-at in let index = c.put_number-at-2 in let plus = c.put_block-at-2 in
    omega (arith, c.requires, c.told-bytes, column.auto.bytes, column.ensures.most, space.auto.bytes, space.ensures.behind, index.auto.bytes, index.ensures.most, plus.auto.bytes, plus.ensures.behind)

pub put_block-requires-2-clause-room : goal.put_block-requires-2-clause-room
put_block-requires-2-clause-room c =
    let column = c.put_number-at in let space = c.put_block-at in let index = c.put_number-at-2 in let plus = c.put_block-at-2 in let vs = c.put_number-at-3 in
    let room : vs.result + 4 ≤ length vs.new.bytes =
    omega (arith, c.requires, c.told-bytes, column.auto.bytes, column.ensures.most, space.auto.bytes, space.ensures.behind, index.auto.bytes, index.ensures.most, plus.auto.bytes, plus.ensures.behind, vs.auto.bytes, vs.ensures.most) in
    room

pub returns-clause-text : goal.returns-clause-text
returns-clause-text c =
    column-is c.args.point.now (take c.args.at c.args.bytes.now) _ _ _ _ _ _ c.put_number-at.ensures.bytes c.put_block-at.ensures.bytes c.put_number-at-2.ensures.bytes c.put_block-at-2.ensures.bytes c.put_number-at-3.ensures.bytes c.put_block-2.ensures.bytes

pub returns-clause-most : goal.returns-clause-most
returns-clause-most c =
    let column = c.put_number-at in let space = c.put_block-at in let index = c.put_number-at-2 in let plus = c.put_block-at-2 in let vs = c.put_number-at-3 in (
      omega (arith, column.ensures.len, space.ensures.behind, index.ensures.len, plus.ensures.behind, vs.ensures.len, c.put_block-2.ensures.behind),
      omega (arith, column.ensures.most, space.ensures.behind, index.ensures.most, plus.ensures.behind, vs.ensures.most, c.put_block-2.ensures.behind),
    )

pub returns-clause-front : goal.returns-clause-front
returns-clause-front c = column-front c.args.point.now c.args.bytes.now _ c.args.at _ (omega (arith, c.requires, c.told-bytes)) (returns-clause-most c).0 (returns-clause-text c)
