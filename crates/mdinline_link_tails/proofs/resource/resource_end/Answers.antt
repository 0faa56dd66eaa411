use Rattle.mdinline_link_tails.proofs.Prelude.{[], ◌∷◌, Some, refl, sym, ap, ◌∙◌, ResourceMarker, Resource, can-exit, class_of, consume, enter, exit, text_byte}
use Rattle.mdinline_link_tails.specs.ResourceRows.{resource_end}
use Rattle.mdinline_link_tails.proofs.resource.resource_end.Goals as goal

pub exit-requires : goal.exit-requires
exit-requires g c =
    let t = c.args.t.now in
    let is = sym c.current.ensures ∙ c.in-Some.is in
    can-exit text_byte resource_end _ (Some (text_byte c.in-Some.field-0)) t c.requires.called refl (ap (class_of text_byte) is)
    (enter ResourceMarker ∷ consume ∷ exit ResourceMarker ∷ []) Resource c.marker.new.t refl c.in_ok-marker-in-Some.ensures
