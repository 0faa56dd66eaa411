use Rattle.markdown_base.proofs.util.slice.Slice.as_str.Goals as goal

pub returns-in-Ok : goal.returns-in-Ok
returns-in-Ok c = record { bytes = c.in-Ok.ensures.cases.0 }
