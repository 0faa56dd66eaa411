use Rattle.mdtests_engine.proofs.Prelude.{sym, ◌∙◌, found-passes}
use Rattle.mdtests_engine.proofs.places.between.Goals as goal

pub from_position-requires-clause-start_is_place : goal.from_position-requires-clause-start_is_place
from_position-requires-clause-start_is_place c = (found-passes _ _ c.in-Some-Some.start (sym c.point_at.ensures ∙ c.in-Some-Some.is-0)).1

pub from_position-requires-clause-end_is_place : goal.from_position-requires-clause-end_is_place
from_position-requires-clause-end_is_place c = (found-passes _ _ c.in-Some-Some.end (sym c.point_at-2.ensures ∙ c.in-Some-Some.is-1)).1
