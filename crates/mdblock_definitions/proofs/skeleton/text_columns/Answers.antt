use Rattle.std.proofs.Common.{List, ℕ, ap, arith, length}
use Rattle.mdblock_definitions.proofs.skeleton.text_columns.Goals as goal

pub returns-in_err-read-clause-turns : goal.returns-in_err-read-clause-turns
returns-in_err-read-clause-turns g c = omega (arith, c.text_at.ensures.turns c.args.at.now.span.number)

pub returns-clause-turns : goal.returns-clause-turns
returns-clause-turns g c =
    let size = ap (λ (l : List ℕ). length l) (c.in_ok-read.ensures.seats c.args.at.now.span.number) in
    omega (arith, c.text_at.ensures.turns c.args.at.now.span.number, c.indent.ensures.turns, c.indent.ensures.within, c.behind-rest.ensures.len, size)
