use Rattle.mddocument_link_targets.proofs.targets.target_of.Given as goal

abbrev pub ghosts-target_of_uncounted : goal.ghosts-target_of_uncounted
ghosts-target_of_uncounted a = record { name = a.blank.name; parts = a.blank.parts }
