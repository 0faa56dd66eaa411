use Rattle.mdinline_link_tails.proofs.Prelude.{[], ◌∷◌, Some, refl, sym, ap, ◌∙◌, ResourceTitle, ResourceTitleMarker, byte-waits, can-exit, can-mark, class_of, enter, exit, consume, write, text_byte}
use Rattle.mdconstructs_tables.specs.Markers.{marked}
use Rattle.mdinline_link_tails.specs.ResourceRows.{stands_before_is, title_end}
use Rattle.mdinline_link_tails.proofs.resource.title_end.Goals as goal

pub marker-requires : goal.marker-requires
marker-requires g c =
    let t = c.args.t.now in
    let is = sym c.current.ensures ∙ c.in-Some.is in
    let made = c.set_stands_before.ensures in
    can-mark text_byte title_end _ (Some (text_byte c.in-Some.field-0)) t c.requires.called refl (ap (class_of text_byte) is) (write (stands_before_is 2) ∷ []) c.set_stands_before.new.t refl made
    (ap (λ t. t.configuration.waiting) made ∙ byte-waits t.text t.configuration.position t.configuration.waiting c.in-Some.field-0 is)

pub exit-requires : goal.exit-requires
exit-requires g c =
    let t = c.args.t.now in
    let is = sym c.current.ensures ∙ c.in-Some.is in
    can-exit text_byte title_end _ (Some (text_byte c.in-Some.field-0)) t c.requires.called refl (ap (class_of text_byte) is)
    (write (stands_before_is 2) ∷ enter ResourceTitleMarker ∷ consume ∷ exit ResourceTitleMarker ∷ []) ResourceTitle c.marker.new.t refl (c.in_ok-marker-in-Some.ensures ∙ ap (marked ResourceTitleMarker) c.set_stands_before.ensures)
