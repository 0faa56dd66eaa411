use Rattle.markdown_edits.proofs.Prelude.{sym, ◌∙◌}
use Rattle.markdown_edits.proofs.Edits.Puts.{nil-both}
use Rattle.markdown_edits.proofs.edit_map.EditMap.is_empty.Goals as goal

pub returns-else-is_empty : goal.returns-else-is_empty
returns-else-is_empty c = (
  (λ t. absurd (let e = sym t ∙ c.if-is_empty.false in cc)),
  (λ z. c.is_empty.ensures.1 (nil-both c.self.inside.front c.self.inside.behind (c.self.view_is ∙ z)).0),
)
