use Rattle.markdown_children.proofs.Prelude.{◌≡◌, ◌++◌, map, take, drop, relinked, table_place}
use Rattle.markdown_children.proofs.division.place_links.Given as goal

-- the events so far have their links placed, and the others are as they were
abbrev pub invariant-loop-event : goal.invariant-loop-event
invariant-loop-event l = l.events ≡ map (relinked (table_place l.chunks l.acc.0 l.acc.1)) (take l.event-index l.fn.events) ++ drop l.event-index l.fn.events
