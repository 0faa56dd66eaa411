use Rattle.mddocument_editing.proofs.Prelude.{◌≡◌, ◌+◌, length, true, false, sym, ap, ◌∙◌, arith, get_or, ends_line}
use Rattle.mddocument_editing.proofs.StartsUpTo.{more-starts, starts-same}
use Rattle.mddocument_editing.proofs.positions.line_at.Goals as goal
use Rattle.mddocument_editing.proofs.positions.line_at.Goals.{then-ends_line, else-ends_line}

pub loop-index-preserved : goal.loop-index-preserved
loop-index-preserved c =
    let bytes = c.args.bytes.now in
    let k = c.loop-index.index in
    elim c.if-ends_line.branch [
      | then-ends_line w ↦
          let ends : ends_line bytes k ≡ true = sym c.ends_line.ensures.end ∙ w.if-ends_line.true in
          let more = more-starts bytes k c.loop-index.line c.loop-index.invariant.count ends in
          record {
            count = more.0 ∙ ap (λ n. n + 1) (sym w.line-is);
            last = rw (w.line-is, w.start-is) more.1;
            few = omega arith;
            within = omega arith;
          }
      | else-ends_line w ↦
          let ends : ends_line bytes k ≡ false = sym c.ends_line.ensures.end ∙ w.if-ends_line.false in
          let same = starts-same bytes k ends in
          record {
            count = ap length same ∙ c.loop-index.invariant.count ∙ ap (λ n. n + 1) (sym w.line-is);
            last = rw (w.line-is, w.start-is) (ap (λ xs. get_or xs c.loop-index.line 0) same ∙ c.loop-index.invariant.last);
            few = omega arith;
            within = omega arith;
          }
    ]
