use Rattle.mdinline_link_tails.proofs.Prelude.{[], ◌∷◌, Some, refl, sym, ap, ◌∙◌, ResourceDestination, ResourceDestinationLiteral, enter, then, byte-waits, can-mark, class_of, text_byte}
use Rattle.mdinline_link_tails.specs.ResourceRows.{resource_open}
use Rattle.mdinline_link_tails.proofs.resource.resource_open.Goals as goal

pub marker-requires : goal.marker-requires
marker-requires g c =
    let t = c.args.t.now in
    let is = sym c.current.ensures ∙ c.in-Some.is in
    let made = then text_byte resource_open _ (Some (text_byte c.in-Some.field-0)) t c.requires.called refl (ap (class_of text_byte) is) (enter ResourceDestination ∷ []) (enter ResourceDestinationLiteral) c.enter.new.self c.enter-then-waits-2.new.self refl c.in_ok-enter-in-Some.ensures.ok c.in_ok-enter-in-Some-2.ensures.ok in
    can-mark text_byte resource_open _ (Some (text_byte c.in-Some.field-0)) t c.requires.called refl (ap (class_of text_byte) is) (enter ResourceDestination ∷ enter ResourceDestinationLiteral ∷ []) c.enter-then-waits-2.new.self refl made
    (ap (λ t. t.configuration.waiting) made ∙ byte-waits t.text t.configuration.position t.configuration.waiting c.in-Some.field-0 is)
