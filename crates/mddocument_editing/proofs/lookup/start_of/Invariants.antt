use Rattle.mddocument_editing.proofs.lookup.start_of.Given as goal

abbrev pub ghosts-start_of_uncounted : goal.ghosts-start_of_uncounted
ghosts-start_of_uncounted a = record { name = a.blank.name; parts = a.blank.parts }
