use Rattle.markdown_base.proofs.Prelude.{◌≡◌, arith, refl, sym, length}
use Rattle.markdown_base.proofs.CharLemmas.{none_after, class_of_white, class_of_punctuation}
use Rattle.markdown_base.proofs.util.char.kind_after_index.Goals as goal

pub returns-in-None : goal.returns-in-None
returns-in-None g c =
    let end : c.args.index ≡ length c.args.bytes.now = omega (arith, c.in-None.ensures.lookup.3, c.requires.boundary.0) in
    record { class = rw (none_after c.args.bytes.now c.args.index end) refl }

pub returns-in-Some : goal.returns-in-Some
returns-in-Some g c =
    let got = c.in-Some.ensures.lookup.3 in
    record { class = class_of_white (λ x. g.P.Fn.post c.args.punctuation.now (x, tt)) c.args.bytes.now c.args.index c.in-Some.byte.now c.requires.text c.requires.boundary got.0 (got.1 0) (sym c.if-is_ascii_whitespace.ensures.value) }

pub returns-in-Some-2 : goal.returns-in-Some-2
returns-in-Some-2 g c =
    let got = c.in-Some.ensures.lookup.3 in
    record { class = class_of_punctuation (λ x. g.P.Fn.post c.args.punctuation.now (x, tt)) c.args.bytes.now c.args.index c.in-Some.byte.now c.requires.text c.requires.boundary got.0 (got.1 0) (sym c.if-is_ascii_punctuation.ensures.value) }
