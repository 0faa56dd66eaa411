use Rattle.mdtests_base.proofs.driven.push_again.Goals as goal

pub push-requires : goal.push-requires
push-requires g c = record { range = λ e. absurd (cc); holds = λ e. absurd (cc) }
