use Rattle.markdown_base.proofs.Prelude.{◌∙◌}
use Rattle.markdown_base.proofs.owned.Items.as_slice.Goals as goal

pub returns : goal.returns
returns g c = c.as_slice.ensures.value ∙ c.self.view_is
