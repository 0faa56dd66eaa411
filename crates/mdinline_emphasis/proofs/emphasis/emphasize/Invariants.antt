use Rattle.mdinline_emphasis.proofs.emphasis.emphasize.Given as goal

abbrev pub ghosts-emphasize_uncounted : goal.ghosts-emphasize_uncounted
ghosts-emphasize_uncounted a = record { name = a.blank.name; parts = a.blank.parts }
