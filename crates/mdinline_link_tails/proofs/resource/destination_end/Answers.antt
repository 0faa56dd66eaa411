use Rattle.mdinline_link_tails.proofs.Prelude.{[], ◌∷◌, Some, refl, sym, ap, ◌∙◌, ResourceDestination, ResourceDestinationLiteral, ResourceDestinationLiteralMarker, can-exit, then, class_of, enter, exit, consume, text_byte}
use Rattle.mdinline_link_tails.specs.ResourceRows.{destination_end}
use Rattle.mdinline_link_tails.proofs.resource.destination_end.Goals as goal

pub exit-requires : goal.exit-requires
exit-requires g c =
    let t = c.args.t.now in
    let is = sym c.current.ensures ∙ c.in-Some.is in
    can-exit text_byte destination_end _ (Some (text_byte c.in-Some.field-0)) t c.requires.called refl (ap (class_of text_byte) is)
    (enter ResourceDestinationLiteralMarker ∷ consume ∷ exit ResourceDestinationLiteralMarker ∷ []) ResourceDestinationLiteral c.marker.new.t refl c.in_ok-marker-in-Some.ensures

pub exit-requires-in-Some : goal.exit-requires-in-Some
exit-requires-in-Some g c =
    let t = c.args.t.now in
    let is = sym c.current.ensures ∙ c.in-Some.is in
    let acts = enter ResourceDestinationLiteralMarker ∷ consume ∷ exit ResourceDestinationLiteralMarker ∷ [] in
    can-exit text_byte destination_end _ (Some (text_byte c.in-Some.field-0)) t c.requires.called refl (ap (class_of text_byte) is)
    (enter ResourceDestinationLiteralMarker ∷ consume ∷ exit ResourceDestinationLiteralMarker ∷ exit ResourceDestinationLiteral ∷ []) ResourceDestination c.exit.new.self refl
    (then text_byte destination_end _ (Some (text_byte c.in-Some.field-0)) t c.requires.called refl (ap (class_of text_byte) is) acts (exit ResourceDestinationLiteral) c.marker.new.t c.exit.new.self refl c.in_ok-marker-in-Some.ensures
    c.in_ok-exit-in-Some.ensures.ok)
