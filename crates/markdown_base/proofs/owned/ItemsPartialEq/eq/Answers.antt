use Rattle.markdown_base.proofs.owned.ItemsPartialEq.eq.Goals as goal

pub returns : goal.returns
returns g c = cc
