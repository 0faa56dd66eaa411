use Rattle.markdown_base.proofs.unist.Position.new.Goals as goal

pub returns : goal.returns
returns c = record { start = c.new.ensures; end = c.new-2.ensures }
