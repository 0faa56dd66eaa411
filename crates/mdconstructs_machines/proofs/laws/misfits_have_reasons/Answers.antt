use Rattle.mdconstructs_machines.proofs.Prelude.{refl}
use Rattle.mdconstructs_machines.proofs.Unfit.{at-endings}
use Rattle.mdconstructs_machines.proofs.laws.misfits_have_reasons.Goals as goal

pub returns : goal.returns
returns c = record { act = refl; spans = refl; choice = refl; answer = refl; unpaid = refl; round_in_place = refl; round_and_fails = refl; round = refl; at_break = refl; at_endings = at-endings; start = refl }
