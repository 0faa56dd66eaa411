use Rattle.std.proofs.Common.{◌<◌, ◌≤◌, drop, arith}
use Rattle.mdblock_containers.proofs.TextLemmas.{text_size}
use Rattle.mdblock_containers.proofs.skeleton.push_letter.Goals as goal

pub returns-in_err-read_line-clause-turns : goal.returns-in_err-read_line-clause-turns
returns-in_err-read_line-clause-turns g c =
    let some : 0 < c.args.tab = omega (arith, c.get-tab_size.ensures.least, c.get-tab_size.ensures.columns) in
    let most : c.args.tab ≤ 16 = omega (arith, c.get-tab_size.ensures.most, c.get-tab_size.ensures.columns) in
    let s = c.args.at.now.span in
    let size = text_size c.args.tab s.number s.start (drop s.start c.args.bytes.now) some most in
    omega (arith, size, c.read_line.ensures.turns)
