use Rattle.mddocument_link_targets.proofs.definitions.definitions_of.Given as goal

abbrev pub ghosts-definitions_of_uncounted : goal.ghosts-definitions_of_uncounted
ghosts-definitions_of_uncounted a = record { name = a.blank.name; parts = a.blank.parts }
