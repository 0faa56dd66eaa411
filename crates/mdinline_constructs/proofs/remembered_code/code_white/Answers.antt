use Rattle.mdinline_constructs.proofs.Prelude.{◌≡◌, false, rules, class_of, is_white, passes, refl, sight_of, text_byte}
use Rattle.mdinline_constructs.proofs.RememberedCode.Lines.{white-other}
use Rattle.mdinline_constructs.proofs.remembered_code.code_white.Goals as goal

pub returns-in_ok-exit-in_default : goal.returns-in_ok-exit-in_default
returns-in_ok-exit-in_default g c =
    let t = c.args.t.now in
    let other : passes is_white (sight_of t).current ≡ false = search rules in
    rw (white-other (class_of text_byte (sight_of t).previous) (sight_of t).current other) (record { answered = refl; became = c.in_ok-exit-in_default.ensures.ok })
