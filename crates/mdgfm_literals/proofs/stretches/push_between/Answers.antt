use Rattle.std.proofs.Common.{◌∙◌, ◌++◌, sym, ap}
use Rattle.std.proofs.lemmas.List.{append-nil}
use Rattle.std.specs.Prelude.{slice_range}
use Rattle.mdgfm_literals.specs.Signs.{has_sign}
use Rattle.mdgfm_literals.specs.Stretches.{before_stretch}
use Rattle.mdgfm_literals.proofs.NoSigns.{no-literals}
use Rattle.mdgfm_literals.proofs.stretches.push_between.Goals as goal

pub returns-else-has_sign : goal.returns-else-has_sign
returns-else-has_sign c =
    let bytes = c.args.bytes.now in
    let from = c.args.from in
    let all = c.args.all.now.items in
    let none = ap has_sign (sym c.slice-text.ensures) ∙ sym c.has_sign.ensures ∙ c.if-has_sign.false in
    sym (append-nil all) ∙ ap (λ ls. all ++ ls) (sym (no-literals 0 (before_stretch bytes c.args.fresh from) from (slice_range bytes from c.args.to) none))
