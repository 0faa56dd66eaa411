use Rattle.std.proofs.Common.{refl}
use Rattle.mdinline_machine.proofs.ListedBytes.{brackets-listed, data-listed, runs-listed, tildes-are-data, tried-listed}
use Rattle.mdinline_machine.proofs.laws.one_list_says_what_begins.Goals as goal

pub returns-clause-classes : goal.returns-clause-classes
returns-clause-classes c = refl

pub returns-clause-constructs : goal.returns-clause-constructs
returns-clause-constructs c = (refl, refl)

pub returns-clause-tried : goal.returns-clause-tried
returns-clause-tried c = tried-listed

pub returns-clause-runs : goal.returns-clause-runs
returns-clause-runs c = runs-listed

pub returns-clause-brackets : goal.returns-clause-brackets
returns-clause-brackets c = brackets-listed

pub returns-clause-data : goal.returns-clause-data
returns-clause-data c = data-listed

pub returns-clause-tildes : goal.returns-clause-tildes
returns-clause-tildes c = tildes-are-data
