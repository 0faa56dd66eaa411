use Rattle.mddocument_editing.proofs.Unique.{divided-unique}
use Rattle.mddocument_editing.proofs.laws.the_same_bytes_are_the_same_document.Goals as goal

pub returns : goal.returns
returns c = divided-unique
