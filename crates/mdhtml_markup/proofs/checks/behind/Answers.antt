use Rattle.std.proofs.lemmas.Bool.Decides.{Decides-eqb}
use Rattle.std.proofs.lemmas.Slice.Eq.{strip_prefix_is}
use Rattle.mdhtml_markup.proofs.CheckSteps.{behind-found}
use Rattle.mdhtml_markup.proofs.checks.behind.Goals as goal

pub returns : goal.returns
returns c = behind-found c.args.front.now c.args.bytes.now c.strip_prefix.result (strip_prefix_is Decides-eqb c.args.bytes.now c.args.front.now c.strip_prefix.result c.strip_prefix.ensures.cases)
