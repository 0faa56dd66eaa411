use Rattle.mddocument_editing.proofs.FrontSums.{found-line}
use Rattle.mddocument_editing.proofs.lookup.line_in_counted.Goals as goal

pub returns-clause-line : goal.returns-clause-line
returns-clause-line g c =
    let found = c.find-section.result in
    let is = c.find-section.ensures in
    found-line c.args.kept.now c.requires.kept c.is_short.ensures found.0 found.1 is.front c.args.line is.within is.start is.end
