use Rattle.markdown_base.proofs.util.char.classify_opt.Goals as goal

pub returns-in-Some : goal.returns-in-Some
returns-in-Some g c = record { class = rw c.in-Some.is c.classify.ensures.class }
