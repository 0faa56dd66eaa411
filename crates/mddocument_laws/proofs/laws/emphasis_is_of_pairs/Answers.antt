use Rattle.mddocument_laws.proofs.Emphasis.DocumentSpans.{documents-have-pairs, documents-have-spans, texts-have-spans}
use Rattle.mddocument_laws.proofs.Emphasis.Markers.{pairs-of-runs, runs-have-markers}
use Rattle.mddocument_laws.proofs.Emphasis.Tildes.{strikethrough-of-tildes}
use Rattle.mddocument_laws.proofs.laws.emphasis_is_of_pairs.Goals as goal

pub returns-clause-runs : goal.returns-clause-runs
returns-clause-runs c = pairs-of-runs

pub returns-clause-markers : goal.returns-clause-markers
returns-clause-markers c = runs-have-markers

pub returns-clause-tildes : goal.returns-clause-tildes
returns-clause-tildes c = strikethrough-of-tildes

pub returns-clause-texts : goal.returns-clause-texts
returns-clause-texts c = texts-have-spans

pub returns-clause-in_turn : goal.returns-clause-in_turn
returns-clause-in_turn c = documents-have-spans

pub returns-clause-documents : goal.returns-clause-documents
returns-clause-documents c = documents-have-pairs
