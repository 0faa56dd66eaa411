use Rattle.markdown_base.proofs.configuration.CompileOptions.try_clone.Goals as goal

pub returns : goal.returns
returns c = simp (c.in_ok-given_text.ensures, c.in_ok-given_text-2.ensures, c.in_ok-given_text-3.ensures, c.in_ok-given_text-4.ensures, c.in_ok-given_text-5.ensures)
