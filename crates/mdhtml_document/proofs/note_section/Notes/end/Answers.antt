use Rattle.std.proofs.Common.{ap, sym, ◌∙◌, Bor}
use Rattle.std.specs.Global.{Global}
use Rattle.std.specs.Option.{is_some}
use Rattle.std.specs.Prelude.{not, Vec}
use Rattle.markdown_base.specs.declared.event.Event.{Event}
use Rattle.mddocument_link_targets.proofs.Lookups.{found}
use Rattle.mdhtml_document.specs.Walks.{first_note, first_of}
use Rattle.mdhtml_document.proofs.NoteEnds.{end-again, end-new, innermost, kept, known, mapped-some}
use Rattle.mdhtml_document.proofs.note_section.Notes.end.Goals as goal

pub returns-in_ok-insert-in-Some-clause-found : goal.returns-in_ok-insert-in-Some-clause-found
returns-in_ok-insert-in-Some-clause-found c = λ label.
    let old = c.args.self.now in
    let es = old.found.entries in
    let n = c.in-Some.note in
    let none =
    ap (λ k. is_some (kept k es)) (sym c.as_slice.ensures.value) ∙ ap is_some (sym (c.get.ensures.value ∙ found (λ k. k.items) c.as_slice.result.now es))
    ∙ mapped-some (λ (x : Bor (Vec Event Global)). x.now) c.get.result ∙ c.is_none.ensures ∙ ap not c.if-is_none.true in
    ap (known label) c.in_ok-insert-in-Some.ensures.entries ∙ end-new label n es none
    ∙ ap (λ ns. first_of (known label es) (first_note label ns)) (sym (innermost old.around.items c.pop.new.self.items n c.in-Some.ensures.items))

pub returns-else-is_none-clause-found : goal.returns-else-is_none-clause-found
returns-else-is_none-clause-found c = λ label.
    let old = c.args.self.now in
    let es = old.found.entries in
    let n = c.in-Some.note in
    let some =
    ap (λ k. is_some (kept k es)) (sym c.as_slice.ensures.value) ∙ ap is_some (sym (c.get.ensures.value ∙ found (λ k. k.items) c.as_slice.result.now es))
    ∙ mapped-some (λ (x : Bor (Vec Event Global)). x.now) c.get.result ∙ c.is_none.ensures ∙ ap not c.if-is_none.false in
    end-again label n es some ∙ ap (λ ns. first_of (known label es) (first_note label ns)) (sym (innermost old.around.items c.pop.new.self.items n c.in-Some.ensures.items))
