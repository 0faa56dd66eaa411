use Rattle.mddocument.proofs.Prelude.{◌≡◌, sym, subst, arith, IsPointOf, point}
use Rattle.mddocument.proofs.RangeReads.{line-start, place, place-is}
use Rattle.mddocument.proofs.ranges.in_line.Goals as goal

pub shift_to-requires-clause-place : goal.shift_to-requires-clause-place
shift_to-requires-clause-place c =
    let tab = c.args.tab in let bytes = c.args.bytes.now in let start = c.args.start in
    let is : place tab bytes start ≡ point c.args.line 1 start 0 = λ j. point (sym c.requires.line j) (line-start tab bytes start c.requires.starts j) start 0 in
    subst (IsPointOf tab bytes) is (place-is tab bytes c.requires.some start (omega (arith, c.requires.forward, c.requires.inside)))
