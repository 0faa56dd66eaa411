use Rattle.markdown_base.proofs.configuration.TabSize.get.Goals as goal

pub returns : goal.returns
returns c = record { columns = c.self.view_is; least = c.self.invariant.0; most = c.self.invariant.1 }
