use Rattle.markdown_base.specs.declared.event.Name.TheVariants.{LabelLink, LabelMarker}
use Rattle.markdown_tokenizer.specs.Sight.{sight_of}
use Rattle.mdconstructs_tables.proofs.Rows.Calls.{can-exit, then}
use Rattle.mdconstructs_tables.specs.Markers.{marked}
use Rattle.mdconstructs_tables.specs.Rows.{write}
use Rattle.mdinline_text_machine.proofs.Constructs.Marks.{sees-byte}
use Rattle.mdinline_machine.proofs.Prelude.{[], ◌∷◌, Some, refl, ap, ◌∙◌, enter, exit, consume, class_of, text_byte}
use Rattle.markdown_tokenizer.specs.declared.tokenizer.state.LabelKind.TheVariants.{Link}
use Rattle.mdinline_machine.specs.BracketRows.{link_start, waits_more}
use Rattle.mdinline_machine.proofs.brackets.link_start.Goals as goal

pub exit-requires : goal.exit-requires
exit-requires g c =
    let t = c.args.t.now in
    let k = t.configuration in
    let seen = sees-byte t.text k.position k.waiting k.ended (c.requires.byte refl) c.requires.called.fed in
    can-exit text_byte link_start (class_of text_byte (sight_of t).previous) (Some (text_byte seen.0)) t c.requires.called refl (ap (class_of text_byte) seen.1)
    (enter LabelLink ∷ enter LabelMarker ∷ consume ∷ exit LabelMarker ∷ []) LabelLink c.marker.new.t refl (c.in_ok-marker.ensures ∙ ap (marked LabelMarker) c.in_ok-enter.ensures.ok)

pub returns : goal.returns
returns g c =
    let t = c.args.t.now in
    let k = t.configuration in
    let before = class_of text_byte (sight_of t).previous in
    let seen = sees-byte t.text k.position k.waiting k.ended (c.requires.byte refl) c.requires.called.fed in
    let at = ap (class_of text_byte) seen.1 in
    let acts = enter LabelLink ∷ enter LabelMarker ∷ consume ∷ exit LabelMarker ∷ [] in
    let one = c.in_ok-marker.ensures ∙ ap (marked LabelMarker) c.in_ok-enter.ensures.ok in
    let two = then text_byte link_start before (Some (text_byte seen.0)) t c.requires.called refl at acts (exit LabelLink) c.marker.new.t c.exit.new.self refl one c.in_ok-exit.ensures.ok in
    record {
      answered = refl;
      became = then text_byte link_start before (Some (text_byte seen.0)) t c.requires.called refl at (enter LabelLink ∷ enter LabelMarker ∷ consume ∷ exit LabelMarker ∷ exit LabelLink ∷ []) (write (waits_more Link)) c.exit.new.self
          c.wait_more.new.t refl two c.in_ok-wait_more.ensures;
    }
