use Rattle.mdinline_text_machine.proofs.Prelude.{[], ◌∷◌, refl, ap, ◌∙◌, Autolink, enter, text_byte, autolink_start}
use Rattle.mdinline_text_machine.proofs.Constructs.Marks.{can-mark-behind}
use Rattle.mdinline_text_machine.proofs.autolink.autolink_start.Goals as goal

pub marker-requires : goal.marker-requires
marker-requires g c =
    let made = c.in_ok-enter.ensures.ok in
    can-mark-behind text_byte autolink_start c.args.t.now c.requires refl (enter Autolink ∷ []) c.enter.new.self (λ b w. refl) made (ap (λ t. t.configuration.waiting) made ∙ c.requires.byte refl)
