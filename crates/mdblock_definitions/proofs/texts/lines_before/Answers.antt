use Rattle.std.proofs.Common.{◌≡◌, ap, arith, drop}
use Rattle.mdinline_labels.proofs.Fronts.{tail}
use Rattle.mdblock_definitions.proofs.TextLemmas.{fewer_lines}
use Rattle.mdblock_definitions.specs.Sections.{lines_of}
use Rattle.mdblock_definitions.proofs.texts.lines_before.Goals as goal

-- what is left has no more lines
pub overflow_sub-result : goal.overflow_sub-result
overflow_sub-result c = omega (arith, c.lines_of-behind.ensures, c.lines_of.ensures, ap lines_of (tail c.args.end c.args.text.now), fewer_lines c.args.end c.args.text.now)

pub returns : goal.returns
returns c = omega (arith, c.lines_of-behind.ensures, c.lines_of.ensures, ap lines_of (tail c.args.end c.args.text.now))

pub returns-then-end-eq0 : goal.returns-then-end-eq0
returns-then-end-eq0 c = let none : c.args.end ≡ 0 = omega (arith, c.if-end-eq0.true) in omega (arith, ap (λ n. lines_of (drop n c.args.text.now)) none)
