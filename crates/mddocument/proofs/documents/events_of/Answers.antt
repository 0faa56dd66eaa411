use Rattle.mddocument.proofs.documents.events_of.Goals as goal

pub returns-in-Ok-clause-tight : goal.returns-in-Ok-clause-tight
returns-in-Ok-clause-tight c = c.in-Ok.ensures.formed.void_tight
