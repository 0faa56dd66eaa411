use Rattle.mdtests_inlines.proofs.labels.sizes.Given as goal

abbrev pub ghosts-sizes_from : goal.ghosts-sizes_from
ghosts-sizes_from a = record { name = a.blank.name; parts = a.blank.parts }
