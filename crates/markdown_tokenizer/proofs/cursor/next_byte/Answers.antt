use Rattle.markdown_tokenizer.proofs.Prelude.{inr, refl, sym, ◌∙◌}
use Rattle.markdown_tokenizer.proofs.cursor.next_byte.Goals as goal

pub returns-then-is_before : goal.returns-then-is_before
returns-then-is_before c = λ t some.
    let s = c.in-Some.ensures t some in
    (record { byte = c.in-Some.byte; point = c.in-Some.seat; end = s.0 }, s.1, sym c.is_before.ensures ∙ c.if-is_before.true, refl)

pub returns-else-is_before : goal.returns-else-is_before
returns-else-is_before c = λ t some.
    let s = c.in-Some.ensures t some in
    inr (record { byte = c.in-Some.byte; point = c.in-Some.seat; end = s.0 }, s.1, sym c.is_before.ensures ∙ c.if-is_before.false)
