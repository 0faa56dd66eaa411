use Rattle.std.proofs.Common.{ℕ, List, [], ◌∷◌, ◌++◌, ap, drop, sym, ◌∙◌}
use Rattle.std.specs.Prelude.{codes}
use Rattle.markdown_base.specs.declared.event.Event.{Event}
use Rattle.mddocument_link_targets.specs.Spans.{inside}
use Rattle.mdhtml_document.specs.declared.shapes.Mode.TheVariants as mode
use Rattle.mdhtml_document.specs.Frames.{known_of}
use Rattle.mdhtml_document.specs.Notes.{back_links}
use Rattle.mdhtml_document.specs.Walks.{walked_in}
use Rattle.mdhtml_document.specs.Written.{after}
use Rattle.mdhtml_document.proofs.NoteSections.{none-written, some-written}
use Rattle.mdhtml_document.proofs.note_section.push_blocks.Goals as goal

pub returns-in_ok-push-in-None : goal.returns-in_ok-push-in-None
returns-in_ok-push-in-None c = λ s kinded same.
    let whole = c.args.whole.now in
    c.in_ok-push-in-None.ensures.items
    ∙ none-written whole.options.now whole.bytes.now (known_of whole) whole.tab (back_links c.args.number c.args.many) s c.args.events.now c.args.out.now.items _ _ _ kinded same
    (sym c.in-None.is ∙ c.last_paragraph.ensures) c.in_ok-write_in-in-None.ensures c.in_ok-push_fresh-in-None.ensures c.in_ok-push_back_links-in-None.ensures

pub returns-in_ok-extend_from_slice-in-Some-2 : goal.returns-in_ok-extend_from_slice-in-Some-2
returns-in_ok-extend_from_slice-in-Some-2 c = λ s kinded same.
    let whole = c.args.whole.now in
    c.in_ok-extend_from_slice-in-Some-2.ensures.items
    ∙ some-written whole.options.now whole.bytes.now (known_of whole) whole.tab (back_links c.args.number c.args.many) s c.args.events.now c.in-Some.at c.args.out.now.items _ _ _ _ kinded same
    (sym c.in-Some.is ∙ c.last_paragraph.ensures)
    (c.in_ok-write_in-in-Some.ensures ∙ ap (λ (x : List Event). after c.args.out.now.items (walked_in whole (record { mode = mode.Flow; columns = []; closed = [] } ∷ []) x)) c.first_events.ensures)
    (c.in_ok-extend_from_slice-in-Some.ensures.items ∙ ap (λ (x : List ℕ). x ++ codes "<p>") c.in_ok-push_fresh-in-Some.ensures)
    (c.in_ok-write_in-in-Some-2.ensures
    ∙ ap (λ (x : List Event). after c.extend_from_slice.new.self.items (walked_in whole (record { mode = mode.Paragraph; columns = []; closed = [] } ∷ []) x))
    (c.inside-inner.ensures.inside ∙ ap inside (c.behind_first-in-Some.ensures ∙ ap (drop 1) c.behind_first.ensures)))
    (c.in_ok-push_back_links-in-Some.ensures ∙ ap (λ (x : List ℕ). after x (back_links c.args.number c.args.many)) c.in_ok-push-in-Some.ensures.items)
