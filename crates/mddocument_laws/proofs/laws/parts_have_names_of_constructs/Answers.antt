use Rattle.mddocument_laws.proofs.DocumentNames.{inlines-named, leaf-blocks-named, skeletons-named, strings-are-named}
use Rattle.mddocument_laws.proofs.laws.parts_have_names_of_constructs.Goals as goal

pub returns-clause-leaf_blocks : goal.returns-clause-leaf_blocks
returns-clause-leaf_blocks c = leaf-blocks-named

pub returns-clause-strings : goal.returns-clause-strings
returns-clause-strings c = strings-are-named

pub returns-clause-inline_text : goal.returns-clause-inline_text
returns-clause-inline_text c = inlines-named

pub returns-clause-skeletons : goal.returns-clause-skeletons
returns-clause-skeletons c = skeletons-named
