use Rattle.mdprograms.proofs.status.refused.Goals as goal

pub returns : goal.returns
returns g c = c.from.ensures
