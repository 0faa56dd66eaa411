use Rattle.mdinline_labels.proofs.definitions.definition_at.Given as goal

abbrev pub ghosts-definition_from : goal.ghosts-definition_from
ghosts-definition_from a = record { name = a.blank.name; parts = a.blank.parts }
