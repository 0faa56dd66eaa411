use Rattle.mdinline_labels.proofs.definitions.definitions_in.Given as goal

abbrev pub ghosts-definitions_uncounted : goal.ghosts-definitions_uncounted
ghosts-definitions_uncounted a = record { name = a.blank.name; parts = a.blank.parts }
