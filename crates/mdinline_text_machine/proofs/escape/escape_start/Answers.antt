use Rattle.mdinline_text_machine.proofs.Prelude.{[], ◌∷◌, refl, ap, ◌∙◌, CharacterEscape, enter, text_byte, escape_start}
use Rattle.mdinline_text_machine.proofs.Constructs.Marks.{can-mark-behind}
use Rattle.mdinline_text_machine.proofs.escape.escape_start.Goals as goal

pub marker-requires : goal.marker-requires
marker-requires g c =
    let made = c.in_ok-enter.ensures.ok in
    can-mark-behind text_byte escape_start c.args.t.now c.requires refl (enter CharacterEscape ∷ []) c.enter.new.self (λ b w. refl) made (ap (λ t. t.configuration.waiting) made ∙ c.requires.byte refl)
