use Rattle.mddocument.proofs.documents.cuts_of.Goals as goal

pub returns-in-Some-clause-cuts : goal.returns-in-Some-clause-cuts
returns-in-Some-clause-cuts c = c.cuts_every.ensures.cuts
