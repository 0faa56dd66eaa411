use Rattle.mdinline_full_references.proofs.Prelude.{[], ◌∷◌, Some, refl, sym, ap, ◌∙◌, Reference, ReferenceMarker, consume, enter, exit, can-exit, class_of, text_byte}
use Rattle.mdinline_full_references.specs.FullReferenceRows.{known, label_end}
use Rattle.mdinline_full_references.proofs.full_reference.label_end.Goals as goal

pub exit-requires : goal.exit-requires
exit-requires g c =
    let t = c.args.t.now in
    let is = sym c.current.ensures ∙ c.in-Some.is in
    can-exit text_byte (label_end (known c.args.wanted)) _ (Some (text_byte c.in-Some.field-0)) t c.requires.called refl (ap (class_of text_byte) is)
    (enter ReferenceMarker ∷ consume ∷ exit ReferenceMarker ∷ []) Reference c.marker.new.t refl c.in_ok-marker-in-Some.ensures
