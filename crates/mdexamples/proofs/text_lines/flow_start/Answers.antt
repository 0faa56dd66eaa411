use Rattle.std.proofs.Common.{refl}
use Rattle.mdexamples.proofs.text_lines.flow_start.Goals as goal

pub returns : goal.returns
returns c = record { answered = refl; became = c.in_ok-register_resolver.ensures.ok }
