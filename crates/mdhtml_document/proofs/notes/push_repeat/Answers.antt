use Rattle.std.proofs.Common.{◌++◌, ℕ, List, ap, ◌∙◌}
use Rattle.std.specs.Fmt.{decimal}
use Rattle.std.specs.Prelude.{codes}
use Rattle.mdhtml_document.proofs.NotesWritten.{repeat-written}
use Rattle.mdhtml_document.proofs.notes.push_repeat.Goals as goal

pub returns : goal.returns
returns c =
    c.in_ok-extend_from_slice-2.ensures.items
    ∙ ap (λ (x : List ℕ). x ++ codes "</sup>")
    (c.in_ok-push_decimal.ensures ∙ ap (λ (x : List ℕ). x ++ decimal c.args.repeat) c.in_ok-extend_from_slice.ensures.items)
    ∙ repeat-written c.args.out.now.items c.args.repeat c.if-repeat-eq1.false
