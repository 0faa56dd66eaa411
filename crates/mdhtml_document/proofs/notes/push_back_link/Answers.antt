use Rattle.std.proofs.Common.{◌++◌, ◌∷◌, [], ℕ, List, ap, ◌∙◌}
use Rattle.std.specs.Prelude.{codes}
use Rattle.mdhtml_document.specs.Notes.{call_id, repeated}
use Rattle.mdhtml_document.specs.Written.{after}
use Rattle.mdhtml_document.proofs.NotesWritten.{back-written}
use Rattle.mdhtml_document.proofs.notes.push_back_link.Goals as goal

pub returns : goal.returns
returns c =
    let tail = codes "\" class=\"footnote-backref\" data-footnote-backref=\"\" aria-label=\"Back to content\">" ++ (226 ∷ 134 ∷ 169 ∷ []) in
    c.in_ok-extend_from_slice-3.ensures.items
    ∙ ap (λ (x : List ℕ). x ++ codes "</a>")
    (c.in_ok-push_repeat.ensures
    ∙ ap (λ (x : List ℕ). after x (repeated c.args.repeat))
    (c.in_ok-extend_from_slice-2.ensures.items
    ∙ ap (λ (x : List ℕ). x ++ tail) (c.in_ok-push_call_id.ensures ∙ ap (λ (x : List ℕ). x ++ call_id c.args.number c.args.repeat) c.in_ok-extend_from_slice.ensures.items)))
    ∙ back-written c.args.out.now.items c.args.number c.args.repeat
