use Rattle.std.proofs.Common.{◌≡◌, ap, sym, ◌∙◌}
use Rattle.std.specs.Option.{option_map_or}
use Rattle.mdhtml_document.specs.Frames.{known_of}
use Rattle.mdhtml_document.specs.Notes.{note_of}
use Rattle.mdhtml_document.proofs.NoteSections.{note-written}
use Rattle.mdhtml_document.proofs.note_section.push_note.Goals as goal
use Rattle.mdhtml_document.proofs.note_section.push_note.Goals.{in-None, in-Some}

pub returns : goal.returns
returns c = λ definitions called notes known.
    let whole = c.args.whole.now in
    let label = c.args.label.now in
    let many : c.match-last_of.many ≡ option_map_or (λ d. d.repeat) c.last_of.result 0 =
    elim c.match-last_of.branch [
      | in-None w ↦ w.many-is ∙ ap (λ o. option_map_or (λ d. d.repeat) o 0) (sym w.in-None.is)
      | in-Some w ↦ w.many-is ∙ ap (λ o. option_map_or (λ d. d.repeat) o 0) (sym w.in-Some.is)
    ]
    in
    c.in_ok-extend_from_slice.ensures.items
    ∙ note-written whole.options.now whole.bytes.now (known_of whole) whole.tab definitions called c.args.number c.match-last_of.many label c.args.out.now.items _ _
    (many ∙ ap (λ o. option_map_or (λ d. d.repeat) o 0) (c.last_of.ensures ∙ known label)) c.in_ok-open_note.ensures
    (c.in_ok-push_blocks.ensures (note_of label definitions) (notes.kinded label) (c.get.ensures ∙ notes.events label))
