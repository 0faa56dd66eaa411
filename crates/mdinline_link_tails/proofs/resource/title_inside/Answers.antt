use Rattle.mdinline_link_tails.proofs.Prelude.{[], ◌∷◌, Some, refl, sym, ap, ◌∙◌, Data, exit, byte-waits, can-mark, class_of, text_byte}
use Rattle.mdinline_link_tails.specs.ResourceRows.{title_inside}
use Rattle.mdinline_link_tails.proofs.resource.title_inside.Goals as goal

pub marker-requires : goal.marker-requires
marker-requires g c =
    let t = c.args.t.now in
    let is = sym c.current.ensures ∙ c.in-Some.is in
    let made = c.in_ok-exit-in-Some-3.ensures.ok in
    can-mark text_byte title_inside _ (Some (text_byte c.in-Some.field-0)) t c.requires.called refl (ap (class_of text_byte) is) (exit Data ∷ []) c.exit-then-waits.new.self refl made
    (ap (λ t. t.configuration.waiting) made ∙ byte-waits t.text t.configuration.position t.configuration.waiting c.in-Some.field-0 is)

pub consume-requires-else-waits-2 : goal.consume-requires-else-waits-2
consume-requires-else-waits-2 g c = let t = c.args.t.now in byte-waits t.text t.configuration.position t.configuration.waiting c.in-Some.field-0 (sym c.current.ensures ∙ c.in-Some.is)
