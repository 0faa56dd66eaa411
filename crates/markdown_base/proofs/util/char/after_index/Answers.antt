use Rattle.markdown_base.proofs.Prelude.{ap, sym, ◌∙◌, arith, chars, slice_get, IsUtf8-between}
use Rattle.markdown_base.proofs.CharLemmas.{char_after_part, none_after}
use Rattle.markdown_base.proofs.util.char.after_index.Goals as goal

pub returns-then-index-bytes : goal.returns-then-index-bytes
returns-then-index-bytes c = record { character = sym (none_after c.args.bytes.now c.args.index c.if-index-bytes.true) }

pub returns-in-Ok : goal.returns-in-Ok
returns-in-Ok c =
    let part = char_after_part c.args.bytes.now c.args.index c.char_end-end.result c.requires.text c.char_end-end.ensures.after c.char_end-end.ensures.inside c.requires.boundary c.char_end-end.ensures.boundary in
    record { character = c.next.ensures.steps.2 ∙ ap (λ xs. slice_get (chars xs) 0) (c.chars.ensures.rest ∙ c.in-Ok.ensures.cases.0) ∙ sym part }

pub returns-in-Err : goal.returns-in-Err
returns-in-Err c = absurd (c.in-Err.ensures.cases.0 (IsUtf8-between c.args.bytes.now c.args.index c.char_end-end.result c.requires.text (omega arith) c.requires.boundary c.char_end-end.ensures.boundary))
