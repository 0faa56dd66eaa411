use Rattle.mdinline_link_strings.proofs.strings.with_strings.Given as goal

abbrev pub ghosts-with_strings_uncounted : goal.ghosts-with_strings_uncounted
ghosts-with_strings_uncounted a = record { name = a.blank.name; parts = a.blank.parts }
