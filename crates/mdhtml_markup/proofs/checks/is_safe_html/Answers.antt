use Rattle.mdhtml_markup.proofs.CheckSteps.{tested-safe}
use Rattle.mdhtml_markup.proofs.checks.is_safe_html.Goals as goal

pub returns-clause-safe : goal.returns-clause-safe
returns-clause-safe c = tested-safe c.passes.result c.args.html.now c.passes.ensures
