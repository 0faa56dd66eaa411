use Rattle.mdinline_text_machine.proofs.Prelude.{rules, ◌≡◌, false, refl, sight_of, class_of, text_byte, is_tick}
use Rattle.mdinline_text_machine.proofs.Plain.Classes.{ended-in}
use Rattle.mdinline_text_machine.proofs.code_span.raw_text_backticks_inside.Goals as goal

pub returns-in_default : goal.returns-in_default
returns-in_default g c =
    let t = c.args.t.now in
    let other : is_tick (class_of text_byte (sight_of t).current) ≡ false = search rules in
    rw (ended-in t other).4 (record { answered = refl; became = refl })
