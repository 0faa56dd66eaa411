use Rattle.markdown_base.proofs.owned.StaticBytes.as_slice.Goals as goal

pub returns : goal.returns
returns c = c.self.view_is
