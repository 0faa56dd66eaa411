use Rattle.markdown_base.proofs.configuration.ParseOptionsDefault.default.Goals as goal

pub returns : goal.returns
returns c = cc
