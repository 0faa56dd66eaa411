use Rattle.markdown_base.proofs.owned.OwnedTextPartialEq.eq.Goals as goal

pub returns : goal.returns
returns c = cc
