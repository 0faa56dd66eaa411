use Rattle.markdown_tokenizer.proofs.Prelude.{◌∙◌, arith, refl, sym, false, true, Tab, Last}
use Rattle.markdown_tokenizer.proofs.Positions.Quick.{quick-here, quick-in-tab, quick-plain}
use Rattle.markdown_tokenizer.proofs.cursor.quick_byte.Goals as goal

pub returns-then-byte-gt13 : goal.returns-then-byte-gt13
returns-then-byte-gt13 c =
    let r = c.requires in
    quick-plain c.args.t.now c.args.bytes.now r.some c.args.point.now r.place c.args.plain_until c.args.end
    (r.plain c.if-point-plain_until.true) c.if-point-plain_until.true r.before r.inside c.if-byte-gt13.true

pub returns-then-goes_on : goal.returns-then-goes_on
returns-then-goes_on c =
    let r = c.requires in
    quick-here c.args.t.now c.args.bytes.now r.some c.args.point.now r.place c.args.plain_until c.args.end Tab true refl (r.plain c.if-point-plain_until.true) c.if-point-plain_until.true r.before r.inside
    (λ e. omega (arith, c.if-byte-ne9.false, e)) (λ e. omega (arith, c.if-byte-ne9.false, e)) (sym c.goes_on.ensures ∙ c.if-goes_on.true)

pub returns-then-point-plain_until : goal.returns-then-point-plain_until
returns-then-point-plain_until c =
    let r = c.requires in
    quick-here c.args.t.now c.args.bytes.now r.some c.args.point.now r.place c.args.plain_until c.args.end Last false refl (r.plain c.if-point-plain_until.true) c.if-point-plain_until.true r.before r.inside
    (λ e. omega (arith, c.if-byte-ne9.false, e)) (λ e. omega (arith, c.if-byte-ne9.false, e)) (sym c.goes_on.ensures ∙ c.if-goes_on.false)

pub returns-then-goes_on-2 : goal.returns-then-goes_on-2
returns-then-goes_on-2 c =
    let r = c.requires in
    quick-in-tab c.args.t.now c.args.bytes.now r.some c.args.point.now r.place c.args.plain_until c.args.end Tab true refl (λ e. cc)
    c.if-point-gt0.true c.if-point-end.true r.inside (sym c.goes_on-then-point-end.ensures ∙ c.if-goes_on-2.true)

pub returns-then-point-end : goal.returns-then-point-end
returns-then-point-end c =
    let r = c.requires in
    quick-in-tab c.args.t.now c.args.bytes.now r.some c.args.point.now r.place c.args.plain_until c.args.end Last false refl (λ e. cc)
    c.if-point-gt0.true c.if-point-end.true r.inside (sym c.goes_on-then-point-end.ensures ∙ c.if-goes_on-2.false)
