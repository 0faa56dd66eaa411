use Rattle.mdconstructs_machines.proofs.Prelude.{refl}
use Rattle.mdconstructs_machines.proofs.laws.misfits_have_causes.Goals as goal

pub returns : goal.returns
returns c = record {
  outer_span_ends_first = refl;
  span_of_no_byte = refl;
  span_at_the_end = refl;
  full_void_span_ends = refl;
  choice_in_a_full_void_span = refl;
  note_where_a_span_began = refl;
  exit_where_nothing_was_noted = refl;
  enter_where_it_notes = refl;
  enter_before_an_event = refl;
  enter_where_it_noted = refl;
  no_place_was_noted = refl;
  choice_where_a_span_began = refl;
  ok_where_a_span_began = refl;
  ok_in_a_span = refl;
  choice_of_other_spans = refl;
  no_choice_waits = refl;
  retry_behind_a_byte = refl;
  no_such_state = refl;
  full_void_span_stays = refl;
  span_began_here = refl;
  called_at_other_bytes = refl;
  round_at_one_place = refl;
  no_state_starts = refl;
}
