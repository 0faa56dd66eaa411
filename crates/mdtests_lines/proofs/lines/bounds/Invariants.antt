use Rattle.mdtests_lines.proofs.lines.bounds.Given as goal

abbrev pub ghosts-bounds_from : goal.ghosts-bounds_from
ghosts-bounds_from a = record { name = a.blank.name; parts = a.blank.parts }
