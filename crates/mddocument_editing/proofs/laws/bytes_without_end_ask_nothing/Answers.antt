use Rattle.mddocument_editing.proofs.AskedNothing.{asks-nothing}
use Rattle.mddocument_editing.proofs.laws.bytes_without_end_ask_nothing.Goals as goal

pub returns : goal.returns
returns c = asks-nothing
