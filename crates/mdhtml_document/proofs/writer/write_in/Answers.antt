use Rattle.std.proofs.Common.{◌≡◌, ◌∙◌, ◌++◌, ◌∷◌, [], List, ap, subst, sym}
use Rattle.markdown_base.specs.declared.event.Event.{Event}
use Rattle.mdblock_containers.specs.declared.list_shapes.ListShape.{ListShape}
use Rattle.mdblock_containers.specs.ListShapes.{shapes_from}
use Rattle.mdhtml_document.specs.declared.shapes.Level.{Level}
use Rattle.mdhtml_document.specs.Frames.{AreListsOf, Open, open_of, opens}
use Rattle.mdhtml_document.specs.Walks.{walked_in}
use Rattle.mdhtml_document.specs.Written.{after}
use Rattle.mdhtml_document.proofs.Entered.{lists-from}
use Rattle.mdhtml_document.proofs.writer.write_in.Goals as goal

one-level : (ls new : List Level) (l : Level) → ls ≡ [] → new ≡ ls ++ l ∷ [] → opens new ≡ open_of l ∷ []
one-level ls new l none is = ap opens (is ∙ ap (λ (x : List Level). x ++ l ∷ []) none)

pub events-init : goal.events-init
events-init c =
    let bytes = c.args.whole.now.bytes.now in
    let events = c.args.events.now in
    record {
      lists = subst (λ (x : List ListShape). AreListsOf bytes x events)
          (sym (c.as_slice-lists.ensures.value ∙ c.in_ok-all.ensures ∙ ap (λ (x : List Event). shapes_from bytes 0 x) c.from_list.ensures)) (lists-from bytes events);
      written = ap (λ (os : List Open). after c.args.out.now.items (walked_in c.args.whole.now os events)) (one-level _ _ _ c.new-levels.ensures.items c.in_ok-push.ensures.items);
    }
