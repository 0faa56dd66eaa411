use Rattle.mdtests_lines.proofs.containers.lines_of.Given as goal

abbrev pub ghosts-lines_from : goal.ghosts-lines_from
ghosts-lines_from a = record { name = a.blank.name; parts = a.blank.parts }
