use Rattle.mdtests_lines.proofs.containers.spans_shown.Given as goal

abbrev pub ghosts-spans_written : goal.ghosts-spans_written
ghosts-spans_written a = record { name = a.blank.name; parts = a.blank.parts }
