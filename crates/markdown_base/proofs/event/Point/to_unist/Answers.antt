use Rattle.markdown_base.proofs.event.Point.to_unist.Goals as goal

pub returns : goal.returns
returns c = record { point = c.new.ensures }
