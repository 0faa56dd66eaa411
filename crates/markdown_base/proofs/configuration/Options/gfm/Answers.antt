use Rattle.markdown_base.proofs.configuration.Options.gfm.Goals as goal

pub returns : goal.returns
returns c = cc
