use Rattle.markdown_base.proofs.Prelude.{◌≡◌, ◌+◌, ◌-◌, ◌*◌, ◌<◌, ◌≤◌, suc, length, get_or, drop, arith, sym, ap, ◌∙◌, subst, eq-eqb, ne_eqb, mul-le-mul_left, get_or-take, get_or-drop, length-take, tab_width}
use Rattle.markdown_base.proofs.Scans.{IsReached, reached-tab, reached-plain}
use Rattle.markdown_base.proofs.PointAt.{point-of_reached, reached-of_point}
use Rattle.markdown_base.proofs.event.Point.shift_to.Goals as goal
use Rattle.markdown_base.proofs.event.Point.shift_to.Goals.{then-byte-eq9, else-byte-eq9}

pub loop-byte-init : goal.loop-byte-init
loop-byte-init c =
    let here : c.args.self.now.index ≡ c.args.self.now.index + 0 = omega arith in
    let some : 0 < c.args.tab_size = subst (λ n. 0 < n) c.get-t.ensures.columns c.get-t.ensures.least in
    subst (IsReached c.args.tab_size c.args.bytes.now c.args.self.now.line c.args.self.now.column) here
    (reached-of_point c.args.tab_size some c.args.bytes.now c.args.self.now c.args.index c.requires.place c.requires.whole c.requires.forward c.requires.in_line)

pub overflow_add-column : goal.overflow_add-column
overflow_add-column c =
    let t = c.args.tab_size in
    let some : 0 < c.args.tab_size = subst (λ n. 0 < n) c.get-t.ensures.columns c.get-t.ensures.least in
    let bytes = c.args.bytes.now in
    let from = c.args.self.now.index in
    let column = c.loop-byte.column in
    let at = from + c.loop-byte.byte-index in
    let within : c.loop-byte.byte-index < c.args.index - from = omega (arith, length-take (c.args.index - from) (drop from bytes)) in
    let inside : at < length bytes = omega arith in
    let more : t * suc at ≤ t * length bytes = mul-le-mul_left t inside in
    elim c.if-byte-eq9.branch [
      | then-byte-eq9 w ↦ omega (arith, c.loop-byte.invariant.bound, more, (w.column-is ∙ w.tab_width.ensures.width ∙ ap (λ n. tab_width n column) c.get-t.ensures.columns))
      | else-byte-eq9 w ↦ omega (arith, c.loop-byte.invariant.bound, more, w.column-is)
    ]

pub loop-byte-preserved : goal.loop-byte-preserved
loop-byte-preserved c =
    let t = c.args.tab_size in
    let some : 0 < c.args.tab_size = subst (λ n. 0 < n) c.get-t.ensures.columns c.get-t.ensures.least in
    let bytes = c.args.bytes.now in
    let from = c.args.self.now.index in
    let line = c.args.self.now.line in
    let column = c.loop-byte.column in
    let at = from + c.loop-byte.byte-index in
    let next : suc at ≡ from + (c.loop-byte.byte-index + 1) = omega arith in
    let within : c.loop-byte.byte-index < c.args.index - from = omega (arith, length-take (c.args.index - from) (drop from bytes)) in
    let inside : at < length bytes = omega arith in
    let other = c.requires.in_line at (omega arith) (omega arith) in
    let not_lf = ne_eqb (get_or bytes at 0) 10 other.0 in
    let not_cr = ne_eqb (get_or bytes at 0) 13 other.1 in
    let byte = get_or-take (c.args.index - from) (drop from bytes) c.loop-byte.byte-index 0 within ∙ get_or-drop from bytes c.loop-byte.byte-index 0 in
    elim c.if-byte-eq9.branch [
      | then-byte-eq9 w ↦
          let moved = reached-tab t bytes line column at c.loop-byte.invariant inside some not_lf not_cr (eq-eqb (get_or bytes at 0) 9 (sym byte ∙ w.if-byte-eq9.true)) in
          let width = w.column-is ∙ w.tab_width.ensures.width ∙ ap (λ n. tab_width n column) c.get-t.ensures.columns in
          subst (IsReached t bytes line (column + c.if-byte-eq9.column)) next (subst (λ n. IsReached t bytes line (column + n) (suc at)) (sym width) moved)
      | else-byte-eq9 w ↦
          let moved = reached-plain t bytes line column at c.loop-byte.invariant inside some not_lf not_cr (ne_eqb (get_or bytes at 0) 9 (λ tab. w.if-byte-eq9.false (byte ∙ tab))) in
          let one : suc column ≡ column + c.if-byte-eq9.column = omega (arith, w.column-is) in
          subst (IsReached t bytes line (column + c.if-byte-eq9.column)) next (subst (λ n. IsReached t bytes line n (suc at)) one moved)
    ]

pub returns-clause-point : goal.returns-clause-point
returns-clause-point c =
    let all : c.args.self.now.index + c.loop-byte.byte-index ≡ c.args.index = omega arith in
    let some : 0 < c.args.tab_size = subst (λ n. 0 < n) c.get-t.ensures.columns c.get-t.ensures.least in
    point-of_reached c.args.tab_size some c.args.bytes.now c.args.self.now.line c.loop-byte.column c.args.index (subst (IsReached c.args.tab_size c.args.bytes.now c.args.self.now.line c.loop-byte.column) all c.loop-byte.invariant)
