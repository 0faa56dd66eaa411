use Rattle.mdhtml_program.proofs.call.answer_choice.Goals as goal

pub returns-in-Ok-None-clause-usage : goal.returns-in-Ok-None-clause-usage
returns-in-Ok-None-clause-usage g c = λ _. c.refused.ensures
