use Rattle.std.proofs.Common.{sym, ◌∙◌}
use Rattle.mdhtml_markup.proofs.CheckSteps.{entity-read}
use Rattle.mdhtml_markup.proofs.checks.read_first.Goals as goal

pub returns-in-Some-clause-read : goal.returns-in-Some-clause-read
returns-in-Some-clause-read c = entity-read c.args.bytes.now c.in-Some.byte c.in-Some.size c.requires c.if-bytes-ne38.false (sym c.entity_at.ensures ∙ c.in-Some.is)
