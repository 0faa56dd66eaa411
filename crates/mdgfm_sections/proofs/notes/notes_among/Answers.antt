use Rattle.std.proofs.Common.{◌∙◌, ap, sym}
use Rattle.std.proofs.lemmas.Result.{IfOk-weaker}
use Rattle.mdblock_definitions.specs.Labelled.{AreDefined, is_one_of}
use Rattle.mdgfm_sections.proofs.NotesOfSkeleton.{notes-off, skeleton-notes}
use Rattle.mdgfm_sections.specs.Notes.{notes_written}
use Rattle.mdgfm_sections.proofs.notes.notes_among.Goals as goal

pub returns-then-not-options : goal.returns-then-not-options
returns-then-not-options c = λ label. c.new.ensures label ∙ sym (ap (λ written. is_one_of written label) (notes-off c.args.options.now c.args.bytes.now c.if-not-options.true))

pub returns : goal.returns
returns c =
    let options = c.args.options.now in
    let bytes = c.args.bytes.now in
    let same = skeleton-notes options bytes c.args.events.now c.requires.skeleton in
    IfOk-weaker c.labels_of.result _ (λ notes. AreDefined notes (notes_written options bytes)) (λ notes are label. are label ∙ ap (λ written. is_one_of written label) same) c.labels_of.ensures
