use Rattle.mddocument_laws.proofs.DocumentRanks.{each-heading-tells-its-rank, headings-have-ranks, headings-tell-their-ranks}
use Rattle.mddocument_laws.proofs.laws.documents_tell_ranks_of_headings.Goals as goal

pub returns-clause-ranks : goal.returns-clause-ranks
returns-clause-ranks c = headings-tell-their-ranks

pub returns-clause-within : goal.returns-clause-within
returns-clause-within c = headings-have-ranks

pub returns-clause-each : goal.returns-clause-each
returns-clause-each c = each-heading-tells-its-rank
