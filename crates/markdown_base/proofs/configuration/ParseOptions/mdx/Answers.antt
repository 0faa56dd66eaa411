use Rattle.markdown_base.proofs.configuration.ParseOptions.mdx.Goals as goal

pub returns : goal.returns
returns c = cc
