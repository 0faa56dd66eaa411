use Rattle.mdtests_lines.proofs.containers.exits_shown.Given as goal

abbrev pub ghosts-exited_from : goal.ghosts-exited_from
ghosts-exited_from a = record { name = a.blank.name; parts = a.blank.parts }
