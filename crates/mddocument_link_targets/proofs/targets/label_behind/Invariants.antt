use Rattle.mddocument_link_targets.proofs.targets.label_behind.Given as goal

abbrev pub ghosts-label_behind_uncounted : goal.ghosts-label_behind_uncounted
ghosts-label_behind_uncounted a = record { name = a.blank.name; parts = a.blank.parts }
