use Rattle.mdinline_emphasis.proofs.emphasis.in_place.Given as goal

abbrev pub ghosts-in_place_uncounted : goal.ghosts-in_place_uncounted
ghosts-in_place_uncounted a = record { name = a.blank.name; parts = a.blank.parts }
