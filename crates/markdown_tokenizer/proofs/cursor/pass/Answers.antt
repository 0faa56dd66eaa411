use Rattle.markdown_tokenizer.proofs.Prelude.{ℕ, true, false, sym, ap, ◌∙◌, goes_on}
use Rattle.markdown_tokenizer.proofs.Positions.Seats.{byte-there, not-feed-in-tab}
use Rattle.markdown_tokenizer.proofs.Positions.Standing.{end-of-line, end-of-other}
use Rattle.markdown_tokenizer.proofs.cursor.pass.Goals as goal
use Rattle.markdown_tokenizer.proofs.cursor.pass.Goals.{else-point-eq0-via-then-point-eq0+else-byte-eq10, else-point-eq0-via-else-point-eq0}

pub returns-then-is_pair : goal.returns-then-is_pair
returns-then-is_pair c = λ seat n.
    end-of-line c.args.t.now c.args.bytes.now c.requires.some c.args.point.now seat c.requires.place n true (byte-there c.requires.next seat n ∙ c.if-byte-eq10.true)
    (sym c.is_pair.ensures ∙ c.if-is_pair.true)

pub returns-else-is_pair : goal.returns-else-is_pair
returns-else-is_pair c = λ seat n.
    end-of-line c.args.t.now c.args.bytes.now c.requires.some c.args.point.now seat c.requires.place n false (byte-there c.requires.next seat n ∙ c.if-byte-eq10.true)
    (sym c.is_pair.ensures ∙ c.if-is_pair.false)

pub returns-then-goes_on : goal.returns-then-goes_on
returns-then-goes_on c = λ seat n.
    let b = byte-there c.requires.next seat n in
    end-of-other c.args.t.now c.args.bytes.now c.requires.some c.args.point.now seat c.requires.place n (λ e. elim c.else-point-eq0.branch [
      | else-point-eq0-via-then-point-eq0+else-byte-eq10 w ↦ w.if-byte-eq10.false (sym b ∙ e)
      | else-point-eq0-via-else-point-eq0 w ↦ not-feed-in-tab c.args.t.now c.args.bytes.now c.args.point.now seat c.requires.some c.requires.place n w.if-point-eq0.false e
    ]) true (ap (λ (m : ℕ). goes_on c.args.t.now m c.args.point.now) b ∙ sym c.goes_on.ensures ∙ c.if-goes_on.true)

pub returns-else-goes_on : goal.returns-else-goes_on
returns-else-goes_on c = λ seat n.
    let b = byte-there c.requires.next seat n in
    end-of-other c.args.t.now c.args.bytes.now c.requires.some c.args.point.now seat c.requires.place n (λ e. elim c.else-point-eq0.branch [
      | else-point-eq0-via-then-point-eq0+else-byte-eq10 w ↦ w.if-byte-eq10.false (sym b ∙ e)
      | else-point-eq0-via-else-point-eq0 w ↦ not-feed-in-tab c.args.t.now c.args.bytes.now c.args.point.now seat c.requires.some c.requires.place n w.if-point-eq0.false e
    ]) false (ap (λ (m : ℕ). goes_on c.args.t.now m c.args.point.now) b ∙ sym c.goes_on.ensures ∙ c.if-goes_on.false)
