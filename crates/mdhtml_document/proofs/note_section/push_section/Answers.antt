use Rattle.std.proofs.Common.{◌++◌, ℕ, List, ap, reverse, sym, ◌∙◌}
use Rattle.std.specs.Prelude.{codes}
use Rattle.mdhtml_document.specs.Frames.{known_of}
use Rattle.mdhtml_document.specs.Html.{notes_from}
use Rattle.mdhtml_document.specs.Notes.{calls_in, labels_of, notes_in}
use Rattle.mdhtml_document.specs.Spans.{spans_of}
use Rattle.mdhtml_document.specs.Written.{after}
use Rattle.mdhtml_document.proofs.NoteSections.{no-section, none-labels, notes-are, section-written, some-labels}
use Rattle.mdhtml_document.proofs.note_section.push_section.Goals as goal

pub returns-then-is_empty : goal.returns-then-is_empty
returns-then-is_empty c = λ balanced numbered.
    let whole = c.args.whole.now in
    let events = whole.events.now in
    let labels = c.args.numbered.now.labels in
    no-section whole.options.now whole.bytes.now (known_of whole) whole.tab (notes_in whole.bytes.now (spans_of events)) (labels_of (reverse (calls_in whole.bytes.now events))) c.args.out.now.items
    (sym numbered.labels ∙ none-labels labels.items _ _ c.is_empty.ensures c.if-is_empty.true labels.ok.0)

pub returns : goal.returns
returns c = λ balanced numbered.
    let whole = c.args.whole.now in
    let events = whole.events.now in
    let labels = c.args.numbered.now.labels in
    let definitions = notes_in whole.bytes.now (spans_of events) in
    let called = labels_of (reverse (calls_in whole.bytes.now events)) in
    c.in_ok-extend_from_slice-2.ensures.items
    ∙ section-written whole.options.now whole.bytes.now (known_of whole) whole.tab definitions called c.args.out.now.items _ _
    (λ none. some-labels labels.items _ _ c.is_empty.ensures c.if-is_empty.false labels.ok.0 (numbered.labels ∙ none))
    (c.in_ok-extend_from_slice.ensures.items ∙ ap (λ (x : List ℕ). x ++ codes "<section class=\"footnotes\" data-footnotes=\"\">\n<ol>\n") c.in_ok-push_fresh.ensures)
    (c.in_ok-push_notes.ensures definitions called (notes-are c.in_ok-notes.notes whole.bytes.now events balanced c.in_ok-notes.ensures) numbered.last
    ∙ ap (λ (x : List (List ℕ)). after c.extend_from_slice.new.self.items (notes_from whole.options.now whole.bytes.now (known_of whole) whole.tab definitions called 1 x)) numbered.labels)
