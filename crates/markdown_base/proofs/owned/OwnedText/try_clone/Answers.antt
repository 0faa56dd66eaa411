use Rattle.markdown_base.proofs.owned.OwnedText.try_clone.Goals as goal

pub returns : goal.returns
returns c = cc c.in_ok-from_str.ensures.ok
