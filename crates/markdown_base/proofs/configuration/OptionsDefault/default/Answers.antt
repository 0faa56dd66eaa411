use Rattle.markdown_base.proofs.configuration.OptionsDefault.default.Goals as goal

pub returns : goal.returns
returns c = cc
