use Rattle.mdinline_link_strings.proofs.strings.read_line.Given as goal

abbrev pub ghosts-read_line_uncounted : goal.ghosts-read_line_uncounted
ghosts-read_line_uncounted a = record { name = a.blank.name; parts = a.blank.parts }
