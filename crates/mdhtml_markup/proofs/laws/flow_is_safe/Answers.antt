use Rattle.mdhtml_markup.proofs.FlowSafe.{flow-safe}
use Rattle.mdhtml_markup.proofs.laws.flow_is_safe.Goals as goal

pub returns : goal.returns
returns c = flow-safe
