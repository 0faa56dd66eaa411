use Rattle.markdown_base.specs.declared.event.Name.TheVariants.{LabelImage, LabelMarker}
use Rattle.mdconstructs_tables.proofs.Rows.Calls.{can-exit}
use Rattle.mdinline_machine.proofs.Prelude.{[], ◌∷◌, Some, refl, sym, ap, ◌∙◌, enter, exit, consume, class_of, text_byte}
use Rattle.mdinline_machine.specs.BracketRows.{image_open}
use Rattle.mdinline_machine.proofs.brackets.image_open.Goals as goal

pub exit-requires : goal.exit-requires
exit-requires g c =
    let t = c.args.t.now in
    let is = sym c.current.ensures ∙ c.in-Some.is in
    can-exit text_byte image_open _ (Some (text_byte c.in-Some.field-0)) t c.requires.called refl (ap (class_of text_byte) is)
    (enter LabelMarker ∷ consume ∷ exit LabelMarker ∷ []) LabelImage c.marker.new.t refl c.in_ok-marker-in-Some.ensures
