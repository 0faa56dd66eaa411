use Rattle.markdown_tokenizer.proofs.Prelude.{◌≡◌, Bool, true, false, refl, sym, ap, ◌∙◌, not, ◌&&◌, is_upto}
use Rattle.markdown_tokenizer.proofs.Positions.Order.{after-before}
use Rattle.markdown_tokenizer.proofs.Positions.Cursors.{upto-order}
use Rattle.markdown_tokenizer.proofs.ranges.is_up_to.Goals as goal

pub returns-then-not-is_before : goal.returns-then-not-is_before
returns-then-not-is_before c =
    ap not c.if-not-is_before.true
    ∙ sym (upto-order c.args.tab c.args.bytes.now c.args.from c.args.to (sym c.is_before.ensures ∙ c.if-not-is_before.true))

pub returns-else-not-is_before : goal.returns-else-not-is_before
returns-else-not-is_before c =
    let t = c.args.tab in let bytes = c.args.bytes.now in let from = c.args.from in let to = c.args.to in
    let back = upto-order t bytes to from (after-before to.index to.vs from.index from.vs (sym c.is_before.ensures ∙ c.if-not-is_before.false)) in
    c.denote_same.ensures ∙ elim (is_upto t bytes from to) as (λ (a : Bool). (a && is_upto t bytes to from) ≡ a) [ true ↦ back | false ↦ refl ]
