use Rattle.mddocument_editing.proofs.FrontSums.{found-byte}
use Rattle.mddocument_editing.proofs.lookup.byte_in_counted.Goals as goal

pub returns-clause-byte : goal.returns-clause-byte
returns-clause-byte g c =
    let found = c.find-section.result in
    let is = c.find-section.ensures in
    found-byte c.args.kept.now c.requires.kept c.is_short.ensures found.0 found.1 is.front c.args.byte is.within is.start is.end
