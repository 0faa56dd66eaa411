use Rattle.mddocument_editing.proofs.NothingNamed.{nothing-named}
use Rattle.mddocument_editing.proofs.laws.an_edit_of_nothing_names_nothing.Goals as goal

pub returns : goal.returns
returns c = nothing-named
