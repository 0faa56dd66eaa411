use Rattle.mdinline_emphasis.proofs.Prelude.{Bool, cond, refl, sym, ap, ◌∙◌, Whitespace, Punctuation, Other, PUNCTUATION, in_ranges}
use Rattle.mdinline_emphasis.proofs.CodeTables.{classed}
use Rattle.mdinline_emphasis.proofs.classes.class_of.Goals as goal

pub returns-then-is_in : goal.returns-then-is_in
returns-then-is_in c =
    let mark = in_ranges PUNCTUATION c.shown_char-code.result in
    sym (classed c.args.char c.shown_char-code.result c.shown_char-code.ensures c.is_in.result mark c.is_in.ensures refl ∙ ap (λ b. cond b Whitespace (cond mark Punctuation Other)) c.if-is_in.true)

pub returns-then-is_in-2 : goal.returns-then-is_in-2
returns-then-is_in-2 c =
    sym (classed c.args.char c.shown_char-code.result c.shown_char-code.ensures c.is_in.result c.is_in-else-is_in.result c.is_in.ensures c.is_in-else-is_in.ensures
    ∙ ap (λ b. cond b Whitespace (cond c.is_in-else-is_in.result Punctuation Other)) c.if-is_in.false ∙ ap (λ (b : Bool). cond b Punctuation Other) c.if-is_in-2.true)

pub returns-else-is_in-2 : goal.returns-else-is_in-2
returns-else-is_in-2 c =
    sym (classed c.args.char c.shown_char-code.result c.shown_char-code.ensures c.is_in.result c.is_in-else-is_in.result c.is_in.ensures c.is_in-else-is_in.ensures
    ∙ ap (λ b. cond b Whitespace (cond c.is_in-else-is_in.result Punctuation Other)) c.if-is_in.false ∙ ap (λ (b : Bool). cond b Punctuation Other) c.if-is_in-2.false)
