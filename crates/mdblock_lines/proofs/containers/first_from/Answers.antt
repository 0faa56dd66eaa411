use Rattle.mdblock_lines.proofs.LineLemmas.{first_stays}
use Rattle.mdblock_lines.proofs.containers.first_from.Goals as goal

pub returns-then-at-first-clause-value : goal.returns-then-at-first-clause-value
returns-then-at-first-clause-value g c = first_stays c.args.t.now c.args.from c.args.at c.args.first c.requires.order c.if-at-first.true c.requires.first
