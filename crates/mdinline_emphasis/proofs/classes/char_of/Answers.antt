use Rattle.mdinline_emphasis.proofs.Prelude.{cond, None, sym, ap, ◌∙◌, subst, IsUtf8, char_of}
use Rattle.mdinline_emphasis.proofs.Chars.{no-char, char-read}
use Rattle.mdinline_emphasis.proofs.classes.char_of.Goals as goal

pub returns-in-Err : goal.returns-in-Err
returns-in-Err c = sym (no-char c.args.bytes.now c.in-Err.ensures.cases.0)

pub returns-then-is_some : goal.returns-then-is_some
returns-then-is_some c =
    let text = c.chars-chars.ensures.rest ∙ c.in-Ok.ensures.cases.0 in
    sym (ap char_of (sym text) ∙ char-read c.chars-chars.result.rest.now c.next-first.new.self.rest.now c.next-first.result c.next.result
    (subst IsUtf8 (sym text) c.in-Ok.ensures.cases.1) (λ p. p.0) c.next-first.ensures.steps.0 c.next.ensures.steps.2
    ∙ ap (λ b. cond b None c.next-first.result) (sym c.is_some.ensures ∙ c.if-is_some.true))

pub returns-else-is_some : goal.returns-else-is_some
returns-else-is_some c =
    let text = c.chars-chars.ensures.rest ∙ c.in-Ok.ensures.cases.0 in
    sym (ap char_of (sym text) ∙ char-read c.chars-chars.result.rest.now c.next-first.new.self.rest.now c.next-first.result c.next.result
    (subst IsUtf8 (sym text) c.in-Ok.ensures.cases.1) (λ p. p.0) c.next-first.ensures.steps.0 c.next.ensures.steps.2
    ∙ ap (λ b. cond b None c.next-first.result) (sym c.is_some.ensures ∙ c.if-is_some.false))
