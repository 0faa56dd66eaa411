use Rattle.mddocument_editing.proofs.ComeBack.{offsets-come-back}
use Rattle.mddocument_editing.proofs.laws.offsets_come_back.Goals as goal

pub returns : goal.returns
returns c = offsets-come-back
