use Rattle.mdtests_engine.proofs.Prelude.{refl, arith}
use Rattle.mdtests_engine.proofs.walks.chunks_are_linked.Goals as goal

pub link_to-requires : goal.link_to-requires
link_to-requires g c = record {
  can_link = record {
    order = omega arith;
    first = record { enter = _; exit = _; enter_at = refl; exit_at = refl; linked = record { enter = refl; void = refl; linked = refl }; ended = record { exits = refl; same = refl } };
    second = record { enter = refl; void = refl; linked = refl };
    one_content = refl;
  };
}

pub link-requires-clause-can_link : goal.link-requires-clause-can_link
link-requires-clause-can_link g c = record {
  order = omega arith;
  first = record { enter = _; exit = _; enter_at = refl; exit_at = refl; linked = record { enter = refl; void = refl; linked = refl }; ended = record { exits = refl; same = refl } };
  second = record { enter = refl; void = refl; linked = refl };
  one_content = refl;
}
