use Rattle.mdinline_constructs.proofs.Prelude.{[], ◌∷◌, refl, ap, ◌∙◌, Autolink, enter, text_byte, can-mark-behind, email_start}
use Rattle.mdinline_constructs.proofs.email.email_start.Goals as goal

pub marker-requires : goal.marker-requires
marker-requires g c =
    let made = c.in_ok-enter.ensures.ok in
    can-mark-behind text_byte email_start c.args.t.now c.requires refl (enter Autolink ∷ []) c.enter.new.self (λ b w. refl) made (ap (λ t. t.configuration.waiting) made ∙ c.requires.byte refl)
