use Rattle.mddocument_editing.proofs.list.sums_again.Given as goal

abbrev pub ghosts-sums_of_uncounted : goal.ghosts-sums_of_uncounted
ghosts-sums_of_uncounted a = record { name = a.blank.name; parts = a.blank.parts }
