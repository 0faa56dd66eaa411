use Rattle.mdgfm_tasks.proofs.events.with_tasks.Given as goal

abbrev pub ghosts-with_tasks_uncounted : goal.ghosts-with_tasks_uncounted
ghosts-with_tasks_uncounted a = record { name = a.blank.name; parts = a.blank.parts }
