use Rattle.mddocument_editing.proofs.Prelude.{◌*◌, ◌≤◌, arith, length, mul-le-mul_right, bytes_of, divided_of}
use Rattle.mddocument_editing.proofs.lookup.is_short.Goals as goal

pub returns : goal.returns
returns c =
    let d = divided_of c.args.kept.now in
    let n = length (bytes_of d) in
    let e = c.get-columns.ensures in
    let least : 1 ≤ d.options.tab_size = omega (arith, e.least, e.columns) in
    let more : 1 * n ≤ d.options.tab_size * n = mul-le-mul_right n least in
    omega (arith, more, c.requires.divided.limit)
