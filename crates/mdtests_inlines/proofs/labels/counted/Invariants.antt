use Rattle.mdtests_inlines.proofs.labels.counted.Given as goal

abbrev pub ghosts-counted_from : goal.ghosts-counted_from
ghosts-counted_from a = record { name = a.blank.name; parts = a.blank.parts }
