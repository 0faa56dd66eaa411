use Rattle.markdown_base.proofs.configuration.ParseOptions.gfm.Goals as goal

pub returns : goal.returns
returns c = cc
