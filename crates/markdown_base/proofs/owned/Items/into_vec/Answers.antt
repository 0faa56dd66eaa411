use Rattle.markdown_base.proofs.owned.Items.into_vec.Goals as goal

pub returns : goal.returns
returns c = λ c'. c'.self.view_is
