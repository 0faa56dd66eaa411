use Rattle.mddocument_editing.proofs.moved.front_of.Given as goal

abbrev pub ghosts-front_of_uncounted : goal.ghosts-front_of_uncounted
ghosts-front_of_uncounted a = record { name = a.blank.name; parts = a.blank.parts }
