use Rattle.std.proofs.Common.{◌++◌, ℕ, List, ap, ◌∙◌}
use Rattle.std.specs.Fmt.{decimal}
use Rattle.std.specs.Prelude.{codes}
use Rattle.mdhtml_document.specs.Notes.{call_id, note_id}
use Rattle.mdhtml_document.proofs.NotesWritten.{call-written}
use Rattle.mdhtml_document.proofs.notes.push_call.Goals as goal

pub returns : goal.returns
returns c =
    let called = c.args.called in
    c.in_ok-extend_from_slice-4.ensures.items
    ∙ ap (λ (x : List ℕ). x ++ codes "</a></sup>")
    (c.in_ok-push_decimal.ensures
    ∙ ap (λ (x : List ℕ). x ++ decimal called.number)
    (c.in_ok-extend_from_slice-3.ensures.items
    ∙ ap (λ (x : List ℕ). x ++ codes "\" data-footnote-ref=\"\">")
    (c.in_ok-push_call_id.ensures
    ∙ ap (λ (x : List ℕ). x ++ call_id called.number called.repeat)
    (c.in_ok-extend_from_slice-2.ensures.items
    ∙ ap (λ (x : List ℕ). x ++ codes "\" id=\"")
    (c.in_ok-push_note_id.ensures ∙ ap (λ (x : List ℕ). x ++ note_id called.number) c.in_ok-extend_from_slice.ensures.items)))))
    ∙ call-written c.args.out.now.items called
