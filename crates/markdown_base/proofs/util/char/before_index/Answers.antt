use Rattle.markdown_base.proofs.Prelude.{refl, chars-nil, ◌-◌, ap, sym, ◌∙◌, take, drop, arith, None, last_or, IsUtf8-between, Chars-Drains, encodes-chars}
use Rattle.markdown_base.proofs.CharLemmas.{char_before_part}
use Rattle.markdown_base.proofs.util.char.before_index.Goals as goal

pub returns-then-index-eq0 : goal.returns-then-index-eq0
returns-then-index-eq0 c = record { character = rw (c.if-index-eq0.true, chars-nil) refl }

pub returns-in-Ok : goal.returns-in-Ok
returns-in-Ok c =
    let bs = c.args.bytes.now in
    let start = c.char_start-start.result in
    let part = char_before_part bs start c.args.index c.requires.text c.char_start-start.ensures.before c.requires.boundary.0 c.char_start-start.ensures.boundary c.requires.boundary in
    let text = IsUtf8-between bs start c.args.index c.requires.text (omega arith) c.char_start-start.ensures.boundary c.requires.boundary in
    let drained = Chars-Drains _ c.last.ensures.ran.0 c.chars.result (encodes-chars (take (c.args.index - start) (drop start bs)) text ∙ sym (c.chars.ensures.rest ∙ c.in-Ok.ensures.cases.0)) c.last.ensures.ran.1 in
    record { character = c.last.ensures.ran.2 ∙ ap (λ xs. last_or None xs) drained ∙ sym part }

pub returns-in-Err : goal.returns-in-Err
returns-in-Err c = absurd (c.in-Err.ensures.cases.0 (IsUtf8-between c.args.bytes.now c.char_start-start.result c.args.index c.requires.text (omega arith) c.char_start-start.ensures.boundary c.requires.boundary))
