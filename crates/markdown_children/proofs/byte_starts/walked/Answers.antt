use Rattle.markdown_children.proofs.Prelude.{◌≡◌, ◌≤◌, ◌<◌, ℕ, suc, false, List, length, refl, sym, ap, ◌∙◌, arith, add-one, lit≤, ◌==◌, slice_index, ne_eqb, mul-le-mul_left, mul-le-mul_right, line_at, column_at, ByteStart}
use Rattle.markdown_children.proofs.Ready.Reached.{reached-at, line_at-le}
use Rattle.markdown_children.proofs.byte_starts.walked.Goals as goal

-- a byte above a CR is no tab and no line ending
apart : (bytes : List ℕ) (i : ℕ) → 13 < slice_index bytes i → (n : ℕ) → n ≤ 13 → (slice_index bytes i == n) ≡ false
apart bytes i above n small = ne_eqb (slice_index bytes i) n (λ same. omega (arith, above, small, same))

pub loop-index-init : goal.loop-index-init
loop-index-init c = record { line = ap (λ (s : ByteStart). s.line) c.requires.start; column = ap (λ (s : ByteStart). s.column) c.requires.start }

pub overflow_add-column : goal.overflow_add-column
overflow_add-column c =
    let r = reached-at c.args.t c.requires.some c.args.bytes.now c.loop-index.index (omega arith) in
    let inside : suc c.loop-index.index ≤ length c.args.bytes.now = omega arith in
    omega (arith, r.bound, mul-le-mul_left c.args.t inside, c.loop-index.invariant.column, c.requires.limit, c.requires.some)

pub loop-index-preserved-then-bytes-index-gt13 : goal.loop-index-preserved-then-bytes-index-gt13
loop-index-preserved-then-bytes-index-gt13 c =
    let i = c.loop-index.invariant in
    let no = apart c.args.bytes.now c.loop-index.index c.if-bytes-index-gt13.true in
    record {
      line = rw (add-one c.loop-index.index, no 13 (lit≤ tt), no 10 (lit≤ tt)) i.line;
      column = rw (add-one c.loop-index.index, no 13 (lit≤ tt), no 10 (lit≤ tt), no 9 (lit≤ tt)) (omega (arith, i.column));
    }

pub overflow_add-line : goal.overflow_add-line
overflow_add-line c =
    omega (arith, line_at-le c.args.bytes.now c.loop-index.index, mul-le-mul_right (length c.args.bytes.now) c.requires.some, c.loop-index.invariant.line, c.requires.limit)

pub loop-index-preserved-then-ends_line : goal.loop-index-preserved-then-ends_line
loop-index-preserved-then-ends_line c =
    let ends = sym c.ends_line.ensures.end ∙ c.if-ends_line.true in
    record { line = rw (add-one c.loop-index.index, ends) (omega (arith, c.loop-index.invariant.line)); column = rw (add-one c.loop-index.index, ends) refl }

pub column_after-column-requires : goal.column_after-column-requires
column_after-column-requires c =
    let r = reached-at c.args.t c.requires.some c.args.bytes.now c.loop-index.index (omega arith) in
    let inside : suc c.loop-index.index ≤ length c.args.bytes.now = omega arith in
    record {
      some = c.requires.some;
      inside = omega arith;
      first = omega (arith, r.first, c.loop-index.invariant.column);
      limit = omega (arith, r.bound, mul-le-mul_left c.args.t inside, c.loop-index.invariant.column, c.requires.limit);
    }

pub loop-index-preserved : goal.loop-index-preserved
loop-index-preserved c =
    let i = c.loop-index.invariant in
    let goes_on = sym c.ends_line.ensures.end ∙ c.if-ends_line.false in
    record { line = rw (add-one c.loop-index.index, goes_on) i.line; column = rw (add-one c.loop-index.index, ← i.column) c.column_after-column.ensures }

pub returns : goal.returns
returns c =
    let i = c.loop-index.invariant in
    let n : c.loop-index.index ≡ c.args.to = omega arith in
    λ j. record { line = (i.line ∙ ap (line_at c.args.bytes.now) n) j; column = (i.column ∙ ap (column_at c.args.t c.args.bytes.now) n) j }
