use Rattle.mddocument.proofs.Prelude.{refl}
use Rattle.mddocument.proofs.documents.options_with.Goals as goal

pub returns : goal.returns
returns c = rw c.default.ensures refl
