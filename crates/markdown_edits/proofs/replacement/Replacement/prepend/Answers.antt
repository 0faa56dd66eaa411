use Rattle.markdown_edits.proofs.Prelude.{◌++◌, ap, ◌∙◌}
use Rattle.markdown_edits.proofs.replacement.Replacement.prepend.Goals as goal

pub returns-clause-additions : goal.returns-clause-additions
returns-clause-additions c = c.in_ok-extend_from_slice.ensures.items ∙ ap (λ xs. c.args.additions.items ++ xs) c.deref.ensures.value
