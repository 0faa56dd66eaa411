use Rattle.mddocument_editing.proofs.rests.first_rest.Given as goal

abbrev pub ghosts-first_rest_uncounted : goal.ghosts-first_rest_uncounted
ghosts-first_rest_uncounted a = record { name = a.blank.name; parts = a.blank.parts }
