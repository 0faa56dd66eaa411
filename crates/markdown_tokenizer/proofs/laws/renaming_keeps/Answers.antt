use Rattle.markdown_tokenizer.proofs.Readings.Renames.{still-well-formed, still-in-shape, renamed-by}
use Rattle.markdown_tokenizer.proofs.laws.renaming_keeps.Goals as goal

pub returns-clause-kept : goal.returns-clause-kept
returns-clause-kept c = λ g old new renamed. (still-well-formed old new renamed g, still-in-shape old new renamed)

pub returns-clause-by_names : goal.returns-clause-by_names
returns-clause-by_names c = λ f events none tight. renamed-by f events none tight
