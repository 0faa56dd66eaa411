use Rattle.markdown_base.specs.declared.event.Name.TheVariants.{LabelMarker}
use Rattle.markdown_tokenizer.specs.Sight.{sight_of}
use Rattle.mdconstructs_tables.proofs.Rows.Calls.{then}
use Rattle.mdconstructs_tables.specs.Rows.{write}
use Rattle.mdinline_text_machine.proofs.Constructs.Marks.{sees-byte}
use Rattle.mdinline_machine.proofs.Prelude.{[], ◌∷◌, false, Some, refl, ap, enter, exit, consume, class_of, text_byte}
use Rattle.mdinline_machine.specs.BracketRows.{end_nok, waits_less}
use Rattle.mdinline_machine.proofs.brackets.end_nok.Goals as goal

pub returns : goal.returns
returns g c =
    let t = c.args.t.now in
    let k = t.configuration in
    let seen = sees-byte t.text k.position k.waiting k.ended (c.requires.byte refl) c.requires.called.fed in
    record {
      answered = refl;
      became = then text_byte end_nok (class_of text_byte (sight_of t).previous) (Some (text_byte seen.0)) t c.requires.called refl (ap (class_of text_byte) seen.1) (enter LabelMarker ∷ consume ∷ exit LabelMarker ∷ [])
          (write (waits_less false)) c.marker.new.t c.wait_less.new.t refl c.in_ok-marker.ensures c.wait_less.ensures;
    }
