use Rattle.mdtests_lines.proofs.lines.asked.Given as goal

abbrev pub ghosts-asked_from : goal.ghosts-asked_from
ghosts-asked_from a = record { name = a.blank.name; parts = a.blank.parts }
