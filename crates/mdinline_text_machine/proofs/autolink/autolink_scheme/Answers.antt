use Rattle.mdinline_text_machine.proofs.Prelude.{rules, ◌≡◌, ℕ, ◌==◌, Some, true, false, refl, arith, nat_tests, sight_of, class_of, text_byte, passes, is_scheme_byte}
use Rattle.mdinline_text_machine.proofs.Autolinks.Classes.{scheme-in, scheme-refused}
use Rattle.mdinline_text_machine.proofs.autolink.autolink_scheme.Goals as goal

pub returns-in-Some-eq43 : goal.returns-in-Some-eq43
returns-in-Some-eq43 g c =
    let b : ℕ = c.in-Some-eq43.field-0 in
    let is : is_scheme_byte b ≡ true = first_of (search rules, grind (arith, nat_tests)) in
    let waits : (sight_of c.args.t.now).current ≡ Some b = search rules in
    rw (scheme-in c.args.t.now b waits is) (record { answered = c.go_on_in_scheme-in-Some-eq43.ensures.answered; became = c.go_on_in_scheme-in-Some-eq43.ensures.became })

pub returns-in_default : goal.returns-in_default
returns-in_default g c =
    let t = c.args.t.now in
    let none : passes is_scheme_byte (sight_of t).current ≡ false = first_of (search rules, grind (arith, nat_tests)) in
    let colon : passes (λ b. b == 58) (sight_of t).current ≡ false = first_of (search rules, grind (arith, nat_tests)) in
    rw (scheme-refused (class_of text_byte (sight_of t).previous) (sight_of t).current none colon) (record { answered = refl; became = refl })
