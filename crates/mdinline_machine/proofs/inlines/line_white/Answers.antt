use Rattle.markdown_tokenizer.specs.Sight.{sight_of}
use Rattle.mdinline_machine.proofs.Prelude.{◌≡◌, false, refl, rules, class_of, is_white, passes, text_byte}
use Rattle.mdinline_machine.proofs.LineReads.{white-ends}
use Rattle.mdinline_machine.proofs.inlines.line_white.Goals as goal

pub returns-in_ok-exit-in_default : goal.returns-in_ok-exit-in_default
returns-in_ok-exit-in_default c =
    let t = c.args.t.now in
    let other : passes is_white (sight_of t).current ≡ false = search rules in
    rw (white-ends (class_of text_byte (sight_of t).previous) (sight_of t).current other) (record { answered = refl; became = c.in_ok-exit-in_default.ensures.ok })
