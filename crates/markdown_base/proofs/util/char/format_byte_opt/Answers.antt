use Rattle.markdown_base.proofs.util.char.format_byte_opt.Goals as goal

pub returns-in_ok-shown-in-Some : goal.returns-in_ok-shown-in-Some
returns-in_ok-shown-in-Some c =
    record { shown = rw c.in-Some.is (rw c.in_ok-shown-in-Some.ensures.shown at c.format.ensures.ok) }
