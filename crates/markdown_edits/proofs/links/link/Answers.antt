use Rattle.markdown_edits.proofs.links.link.Goals as goal

pub returns : goal.returns
returns c = c.link_to.ensures
