use Rattle.mdinline_text_machine.proofs.Prelude.{◌≡◌, refl, sym, ◌∙◌, true, false, sight_of, sizes_are_equal}
use Rattle.mdinline_text_machine.proofs.Plain.Classes.{ended-in}
use Rattle.mdinline_text_machine.proofs.code_span.after_closing.Goals as goal

pub exit-requires : goal.exit-requires
exit-requires g c = (c.requires.called.ends (ended-in c.args.t.now c.requires.other).3).0

pub returns-in_ok-exit : goal.returns-in_ok-exit
returns-in_ok-exit g c =
    let t = c.args.t.now in
    let e : sizes_are_equal t.given (sight_of t) t.configuration ≡ true = sym c.sizes_are_equal.ensures ∙ c.if-sizes_are_equal.true in
    rw ((ended-in t c.requires.other).1, e) (record { answered = refl; became = c.in_ok-exit.ensures.ok })

pub returns-else-sizes_are_equal : goal.returns-else-sizes_are_equal
returns-else-sizes_are_equal g c =
    let t = c.args.t.now in
    let e : sizes_are_equal t.given (sight_of t) t.configuration ≡ false = sym c.sizes_are_equal.ensures ∙ c.if-sizes_are_equal.false in
    rw ((ended-in t c.requires.other).1, e) (record { answered = refl; became = refl })
