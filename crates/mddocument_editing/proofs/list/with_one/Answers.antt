use Rattle.std.proofs.Common.{arith}
use Rattle.mddocument_editing.proofs.ListSums.{sums-one}
use Rattle.mddocument_editing.proofs.list.with_one.Goals as goal

pub returns : goal.returns
returns c = λ xs first.
    let x = c.args.section.now in
    sums-one xs x c.args.sums _ first c.saturating_add.ensures (omega (arith, c.saturating_add-2.ensures, c.len.ensures, x.part.bytes.ok.0)) (omega (arith, c.saturating_add-3.ensures, c.len-2.ensures))
