use Rattle.markdown_base.proofs.owned.OwnedText.into_string.Goals as goal

pub returns : goal.returns
returns c = c.self.view_is
