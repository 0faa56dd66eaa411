use Rattle.mddocument.proofs.Prelude.{sym, ◌∙◌}
use Rattle.mddocument.proofs.FlowTexts.AllChildren.{all-children}
use Rattle.mddocument.proofs.FlowTexts.Whole.{inlines-are-read-by}
use Rattle.mddocument.proofs.laws.inline_texts_and_strings_are_read_at_once.Goals as goal

pub returns : goal.returns
returns c = λ defined g text new sub is h. all-children defined g text is new sub h ∙ sym (inlines-are-read-by g text is defined)
