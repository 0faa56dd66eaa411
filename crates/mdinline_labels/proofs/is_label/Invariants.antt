use Rattle.mdinline_labels.proofs.is_label.Given as goal

abbrev pub ghosts-is_label_from : goal.ghosts-is_label_from
ghosts-is_label_from a = record { name = a.blank.name; parts = a.blank.parts }
