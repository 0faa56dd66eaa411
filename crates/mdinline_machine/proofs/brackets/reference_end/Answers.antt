use Rattle.markdown_base.specs.declared.event.Name.TheVariants.{LabelEnd, LabelMarker}
use Rattle.markdown_tokenizer.specs.Sight.{sight_of}
use Rattle.mdconstructs_tables.proofs.Rows.Calls.{can-exit}
use Rattle.mdconstructs_tables.specs.Markers.{marked}
use Rattle.mdinline_text_machine.proofs.Constructs.Marks.{sees-byte}
use Rattle.mdinline_machine.proofs.Prelude.{[], ◌∷◌, Some, refl, ap, ◌∙◌, enter, exit, consume, class_of, text_byte}
use Rattle.mdinline_machine.specs.BracketRows.{reference_end}
use Rattle.mdinline_machine.proofs.brackets.reference_end.Goals as goal

pub exit-requires : goal.exit-requires
exit-requires g c =
    let t = c.args.t.now in
    let k = t.configuration in
    let seen = sees-byte t.text k.position k.waiting k.ended (c.requires.byte refl) c.requires.called.fed in
    can-exit text_byte reference_end (class_of text_byte (sight_of t).previous) (Some (text_byte seen.0)) t c.requires.called refl (ap (class_of text_byte) seen.1)
    (enter LabelEnd ∷ enter LabelMarker ∷ consume ∷ exit LabelMarker ∷ []) LabelEnd c.marker.new.t refl (c.in_ok-marker.ensures ∙ ap (marked LabelMarker) c.in_ok-enter.ensures.ok)
