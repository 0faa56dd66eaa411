use Rattle.mddocument_editing.proofs.ComeBack.{positions-come-back}
use Rattle.mddocument_editing.proofs.laws.positions_come_back.Goals as goal

pub returns : goal.returns
returns c = positions-come-back
