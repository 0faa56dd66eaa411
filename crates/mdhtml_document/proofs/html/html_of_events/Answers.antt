use Rattle.std.proofs.Common.{◌∙◌, ℕ, List, ap, subst, sym}
use Rattle.markdown_base.specs.declared.event.Event.{Event}
use Rattle.mdblock_containers.specs.declared.list_shapes.ListShape.{ListShape}
use Rattle.mdblock_containers.specs.ListShapes.{shapes_from}
use Rattle.mdhtml_document.specs.Frames.{AreListsOf, call_at, led_by}
use Rattle.mdhtml_document.specs.Html.{section}
use Rattle.mdhtml_document.specs.Written.{after}
use Rattle.mdhtml_document.proofs.Entered.{lists-from}
use Rattle.mdhtml_document.proofs.Finished.{html-walked}
use Rattle.mdhtml_document.proofs.html.html_of_events.Goals as goal

pub write-requires : goal.write-requires
write-requires c =
    let bytes = c.args.bytes.now in
    let events = c.args.events.now in
    subst (λ (x : List ListShape). AreListsOf bytes x events)
    (sym (c.as_slice.ensures.value ∙ c.in_ok-lists.ensures ∙ ap (λ (x : List Event). shapes_from bytes 0 x) c.from_list.ensures)) (lists-from bytes events)

pub returns : goal.returns
returns c = λ balanced.
    let numbered = c.in_ok-notes.ensures in
    c.in_ok-push_section.ensures balanced numbered
    ∙ ap (λ (out : List ℕ). after out (section c.args.options.now c.args.bytes.now (record { lookup = led_by c.args.bytes.now c.args.events.now c.in_ok-known.known.0 c.in_ok-known.known.1; called = call_at c.in_ok-notes.notes.calls }) c.args.tab c.args.events.now))
    c.in_ok-html.ensures
    ∙ html-walked c.args.options.now c.args.bytes.now c.args.tab c.args.events.now c.in_ok-known.known.0 balanced c.in_ok-known.ensures.defined c.in_ok-known.known.1
    (call_at c.in_ok-notes.notes.calls) c.in_ok-known.ensures.limit numbered.calls
