use Rattle.mddocument_editing.proofs.CharsBack.{sum-sizes}
use Rattle.mddocument_editing.proofs.TextChars.{characters-are-utf8}
use Rattle.mddocument_editing.proofs.laws.bytes_are_cut_into_characters.Goals as goal

pub returns : goal.returns
returns c = record { text = characters-are-utf8; all = sum-sizes }
