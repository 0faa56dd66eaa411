use Rattle.mdinline_link_tails.proofs.Prelude.{[], ◌∷◌, Some, refl, sym, ap, ◌∙◌, ResourceTitle, enter, then, write, byte-waits, can-mark, class_of, text_byte}
use Rattle.mdinline_link_tails.specs.ResourceRows.{title_closes_with, title_start}
use Rattle.mdinline_link_tails.proofs.resource.title_start.Goals as goal

pub marker-requires : goal.marker-requires
marker-requires g c =
    let t = c.args.t.now in
    let is = sym c.current.ensures ∙ c.in-Some.is in
    let made = then text_byte title_start _ (Some (text_byte c.in-Some.field-0)) t c.requires.called refl (ap (class_of text_byte) is) (write (title_closes_with 34) ∷ []) (enter ResourceTitle) c.set_title_closes.new.t c.enter.new.self refl c.set_title_closes.ensures c.in_ok-enter-in-Some.ensures.ok in
    can-mark text_byte title_start _ (Some (text_byte c.in-Some.field-0)) t c.requires.called refl (ap (class_of text_byte) is) (write (title_closes_with 34) ∷ enter ResourceTitle ∷ []) c.enter.new.self refl made
    (ap (λ t. t.configuration.waiting) made ∙ byte-waits t.text t.configuration.position t.configuration.waiting c.in-Some.field-0 is)

pub marker-requires-then-waits-2 : goal.marker-requires-then-waits-2
marker-requires-then-waits-2 g c =
    let t = c.args.t.now in
    let is = sym c.current.ensures ∙ c.in-Some.is in
    let made = then text_byte title_start _ (Some (text_byte c.in-Some.field-0)) t c.requires.called refl (ap (class_of text_byte) is) (write (title_closes_with 39) ∷ []) (enter ResourceTitle) c.set_title_closes-then-waits-2.new.t c.enter-then-waits-2.new.self refl c.set_title_closes-then-waits-2.ensures c.in_ok-enter-in-Some-2.ensures.ok in
    can-mark text_byte title_start _ (Some (text_byte c.in-Some.field-0)) t c.requires.called refl (ap (class_of text_byte) is) (write (title_closes_with 39) ∷ enter ResourceTitle ∷ []) c.enter-then-waits-2.new.self refl made
    (ap (λ t. t.configuration.waiting) made ∙ byte-waits t.text t.configuration.position t.configuration.waiting c.in-Some.field-0 is)

pub marker-requires-then-waits-3 : goal.marker-requires-then-waits-3
marker-requires-then-waits-3 g c =
    let t = c.args.t.now in
    let is = sym c.current.ensures ∙ c.in-Some.is in
    let made = then text_byte title_start _ (Some (text_byte c.in-Some.field-0)) t c.requires.called refl (ap (class_of text_byte) is) (write (title_closes_with 41) ∷ []) (enter ResourceTitle) c.set_title_closes-then-waits-3.new.t c.enter-then-waits-3.new.self refl c.set_title_closes-then-waits-3.ensures c.in_ok-enter-in-Some-3.ensures.ok in
    can-mark text_byte title_start _ (Some (text_byte c.in-Some.field-0)) t c.requires.called refl (ap (class_of text_byte) is) (write (title_closes_with 41) ∷ enter ResourceTitle ∷ []) c.enter-then-waits-3.new.self refl made
    (ap (λ t. t.configuration.waiting) made ∙ byte-waits t.text t.configuration.position t.configuration.waiting c.in-Some.field-0 is)
