use Rattle.mddocument_link_targets.proofs.targets.label_at.Given as goal

abbrev pub ghosts-label_at_uncounted : goal.ghosts-label_at_uncounted
ghosts-label_at_uncounted a = record { name = a.blank.name; parts = a.blank.parts }
