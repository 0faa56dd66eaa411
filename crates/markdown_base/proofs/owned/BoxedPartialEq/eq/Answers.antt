use Rattle.markdown_base.proofs.owned.BoxedPartialEq.eq.Goals as goal

pub returns : goal.returns
returns g c = cc
