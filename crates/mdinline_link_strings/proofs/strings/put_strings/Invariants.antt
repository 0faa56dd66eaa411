use Rattle.mdinline_link_strings.proofs.strings.put_strings.Given as goal

abbrev pub ghosts-put_strings_uncounted : goal.ghosts-put_strings_uncounted
ghosts-put_strings_uncounted a = record { name = a.blank.name; parts = a.blank.parts }
