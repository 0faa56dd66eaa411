use Rattle.mddocument_editing.proofs.Prelude.{◌≡◌, ◌+◌, length, Some, sym, ap, ◌∙◌, arith, slice_get_past, slice_get, starts, starts_up_to}
use Rattle.mddocument_editing.proofs.StartsUpTo.{more-starts, starts-get, starts-same}
use Rattle.mddocument_editing.proofs.positions.line_start.Goals as goal
use Rattle.mddocument_editing.proofs.positions.line_start.Goals.{then-ends_line+else-passed-line, else-ends_line}

pub returns-then-passed-line-clause-start : goal.returns-then-passed-line-clause-start
returns-then-passed-line-clause-start c =
    let bytes = c.args.bytes.now in
    let k = c.loop-index.index in
    let more = more-starts bytes k c.loop-index.passed c.loop-index.invariant.count (sym c.ends_line.ensures.end ∙ c.if-ends_line.true) in
    let here : c.loop-index.passed + 1 ≡ c.args.line = omega arith in
    let found = starts-get bytes (k + 1) (c.loop-index.passed + 1) (omega arith) (omega (arith, more.0)) in
    sym (ap (slice_get (starts bytes)) (sym here) ∙ found ∙ ap Some more.1)

pub loop-index-preserved : goal.loop-index-preserved
loop-index-preserved c =
    let bytes = c.args.bytes.now in
    let k = c.loop-index.index in
    elim c.if-ends_line.branch [
      | then-ends_line+else-passed-line w ↦
          let more = more-starts bytes k c.loop-index.passed c.loop-index.invariant.count (sym c.ends_line.ensures.end ∙ w.if-ends_line.true) in
          record { count = omega (arith, more.0); few = omega arith; before = omega arith }
      | else-ends_line w ↦
          let same = starts-same bytes k (sym c.ends_line.ensures.end ∙ w.if-ends_line.false) in
          record { count = omega (arith, ap length same); few = omega arith; before = omega arith }
    ]

pub returns-clause-start : goal.returns-clause-start
returns-clause-start c =
    let bytes = c.args.bytes.now in
    let all : c.loop-index.index ≡ length bytes = omega arith in
    let count = ap (λ n. length (starts_up_to bytes n)) (sym all) ∙ c.loop-index.invariant.count in
    sym (slice_get_past (starts bytes) c.args.line (omega (arith, count)))
