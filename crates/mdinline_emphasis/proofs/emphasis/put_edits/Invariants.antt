use Rattle.mdinline_emphasis.proofs.emphasis.put_edits.Given as goal

abbrev pub ghosts-put_edits_uncounted : goal.ghosts-put_edits_uncounted
ghosts-put_edits_uncounted a = record { name = a.blank.name; parts = a.blank.parts }
