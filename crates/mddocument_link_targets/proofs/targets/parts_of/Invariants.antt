use Rattle.mddocument_link_targets.proofs.targets.parts_of.Given as goal

abbrev pub ghosts-parts_of_uncounted : goal.ghosts-parts_of_uncounted
ghosts-parts_of_uncounted a = record { name = a.blank.name; parts = a.blank.parts }
