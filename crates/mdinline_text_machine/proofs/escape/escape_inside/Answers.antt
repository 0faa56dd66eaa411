use Rattle.mdinline_text_machine.proofs.Prelude.{◌≡◌, [], ◌∷◌, Some, refl, sym, ap, ◌∙◌, true, false, is_ascii_punctuation, CharacterEscape, CharacterEscapeValue, enter, exit, consume, class_of, can-exit, then, text_byte, escape_inside}
use Rattle.mdinline_text_machine.proofs.Escapes.Classes.{escaped-in, refused-in}
use Rattle.mdinline_text_machine.proofs.escape.escape_inside.Goals as goal

pub exit-requires : goal.exit-requires
exit-requires g c =
    let t = c.args.t.now in
    can-exit text_byte escape_inside _ (Some (text_byte c.in-Some.byte)) t c.requires.called refl (ap (class_of text_byte) (sym c.current.ensures ∙ c.in-Some.is))
    (enter CharacterEscapeValue ∷ consume ∷ exit CharacterEscapeValue ∷ []) CharacterEscape c.marker.new.t refl c.in_ok-marker-in-Some.ensures

pub returns-in_ok-exit-in-Some : goal.returns-in_ok-exit-in-Some
returns-in_ok-exit-in-Some g c =
    let t = c.args.t.now in
    let byte = c.in-Some.byte in
    let is = sym c.current.ensures ∙ c.in-Some.is in
    let punctuation : is_ascii_punctuation byte ≡ true = sym c.is_ascii_punctuation.ensures.value ∙ c.if-is_ascii_punctuation.true in
    rw (escaped-in t byte is punctuation) (record {
      answered = refl;
      became = then text_byte escape_inside _ (Some (text_byte byte)) t c.requires.called refl (ap (class_of text_byte) is) (enter CharacterEscapeValue ∷ consume ∷ exit CharacterEscapeValue ∷ [])
          (exit CharacterEscape) c.marker.new.t c.exit.new.self refl c.in_ok-marker-in-Some.ensures c.in_ok-exit-in-Some.ensures.ok;
    })

pub returns-else-is_ascii_punctuation : goal.returns-else-is_ascii_punctuation
returns-else-is_ascii_punctuation g c =
    let none : is_ascii_punctuation c.in-Some.byte ≡ false = sym c.is_ascii_punctuation.ensures.value ∙ c.if-is_ascii_punctuation.false in
    rw (refused-in c.args.t.now c.in-Some.byte (sym c.current.ensures ∙ c.in-Some.is) none)
    (record { answered = refl; became = refl })
