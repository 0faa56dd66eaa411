use Rattle.mdinline_labels.proofs.resources.resource_at.Given as goal

abbrev pub ghosts-resource_from : goal.ghosts-resource_from
ghosts-resource_from a = record { name = a.blank.name; parts = a.blank.parts }
