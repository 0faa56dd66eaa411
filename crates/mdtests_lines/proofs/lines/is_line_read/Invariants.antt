use Rattle.mdtests_lines.proofs.lines.is_line_read.Given as goal

abbrev pub ghosts-read_from : goal.ghosts-read_from
ghosts-read_from a = record { name = a.blank.name; parts = a.blank.parts }
