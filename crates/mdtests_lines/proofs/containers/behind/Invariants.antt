use Rattle.mdtests_lines.proofs.containers.behind.Given as goal

abbrev pub ghosts-behind_from : goal.ghosts-behind_from
ghosts-behind_from a = record { name = a.blank.name; parts = a.blank.parts }
