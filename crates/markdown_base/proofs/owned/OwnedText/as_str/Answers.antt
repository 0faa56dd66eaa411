use Rattle.markdown_base.proofs.owned.OwnedText.as_str.Goals as goal

pub returns : goal.returns
returns c = cc
