use Rattle.mdinline_link_tails.proofs.Prelude.{[], ◌∷◌, Some, refl, sym, ap, ◌∙◌, SpaceOrTab, exit, byte-waits, can-mark, class_of, text_byte}
use Rattle.mdinline_link_tails.specs.ResourceRows.{gap_white}
use Rattle.mdinline_link_tails.proofs.resource.gap_white.Goals as goal

pub marker-requires : goal.marker-requires
marker-requires g c =
    let t = c.args.t.now in
    let is = sym c.current.ensures ∙ c.in-Some.is in
    let made = c.in_ok-exit-in-Some.ensures.ok in
    can-mark text_byte gap_white _ (Some (text_byte c.in-Some.field-0)) t c.requires.called refl (ap (class_of text_byte) is) (exit SpaceOrTab ∷ []) c.exit.new.self refl made
    (ap (λ t. t.configuration.waiting) made ∙ byte-waits t.text t.configuration.position t.configuration.waiting c.in-Some.field-0 is)
