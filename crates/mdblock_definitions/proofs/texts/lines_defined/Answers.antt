use Rattle.std.proofs.Common.{ap, arith}
use Rattle.mdinline_labels.proofs.Fronts.{tail}
use Rattle.mdblock_definitions.proofs.TextLemmas.{fewer_lines}
use Rattle.mdblock_definitions.specs.Sections.{lines_of}
use Rattle.mdblock_definitions.proofs.texts.lines_defined.Goals as goal

-- what is left has no more lines
pub overflow_sub-result : goal.overflow_sub-result
overflow_sub-result g c =
    let n = c.definitions_counted-front.result.end in
    let xs = c.args.text.now in
    omega (arith, c.lines_of-left.ensures, c.lines_of.ensures, ap lines_of (tail n xs), fewer_lines n xs)
