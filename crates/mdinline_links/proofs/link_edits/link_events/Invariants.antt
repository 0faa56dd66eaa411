use Rattle.mdinline_links.proofs.link_edits.link_events.Given as goal

abbrev pub ghosts-link_events_uncounted : goal.ghosts-link_events_uncounted
ghosts-link_events_uncounted a = record { name = a.blank.name; parts = a.blank.parts }
