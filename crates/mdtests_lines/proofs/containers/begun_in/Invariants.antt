use Rattle.mdtests_lines.proofs.containers.begun_in.Given as goal

abbrev pub ghosts-begun_from : goal.ghosts-begun_from
ghosts-begun_from a = record { name = a.blank.name; parts = a.blank.parts }
