use Rattle.std.proofs.Common.{◌++◌, ◌+◌, ◌∙◌, ap, drop, take}
use Rattle.mdhtml_markup.specs.Escapes.{kept, kept_byte, replacement}
use Rattle.mdhtml_markup.proofs.Waits.{sliced, written}
use Rattle.mdhtml_markup.proofs.escape.keep_one.Goals as goal

pub returns-clause-added : goal.returns-clause-added
returns-clause-added c =
    let at = c.args.at in let from = c.args.from in let html = c.args.html.now in
    let waiting = ap (λ x. c.args.out.now.items ++ x) (sliced kept_byte c.args.out.now.items html from at 0 c.requires.order c.requires.inside) in
    let rest = drop (at + 1) (take (at + 1) html) ++ kept (drop (at + 1) html) in
    ap (λ x. x ++ rest) (c.in_ok-extend_from_slice-2.ensures.items ∙ ap (λ x. x ++ replacement) (c.in_ok-extend_from_slice.ensures.items ∙ waiting))
    ∙ written kept_byte c.args.out.now.items html from at 0 c.requires.order c.requires.inside replacement (ap kept_byte c.if-html-at-ne0.false)
