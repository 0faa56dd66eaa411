use Rattle.mdconstructs_machines.proofs.Unfit.{uncounted, unpaid, editing-fits, not-plain, writes}
use Rattle.mdconstructs_machines.proofs.laws.misfits_are_not_all.Goals as goal

pub returns : goal.returns
returns c = record { uncounted = uncounted; unpaid = unpaid; editing = editing-fits; not_plain = not-plain; writes = writes }
