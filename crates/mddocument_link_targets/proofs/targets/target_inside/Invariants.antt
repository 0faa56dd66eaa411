use Rattle.mddocument_link_targets.proofs.targets.target_inside.Given as goal

abbrev pub ghosts-target_inside_uncounted : goal.ghosts-target_inside_uncounted
ghosts-target_inside_uncounted a = record { name = a.blank.name; parts = a.blank.parts }
