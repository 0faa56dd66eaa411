use Rattle.std.proofs.Common.{◌≤◌, ap, arith}
use Rattle.mdblock_definitions.specs.Sections.{defined}
use Rattle.mdblock_definitions.proofs.SectionLemmas.{defining-none, defining-push}
use Rattle.mdblock_definitions.proofs.sections.push_defined.Goals as goal

pub returns-then-defined-eq0 : goal.returns-then-defined-eq0
returns-then-defined-eq0 c = λ ds same around rows size before are. defining-none c.args.sections.now.items before ds around rows (omega (arith, size, c.if-defined-eq0.true)) are

pub returns : goal.returns
returns c = λ ds same around rows size before are.
    let some : 1 ≤ c.args.defined.lines = omega (arith, c.if-defined-eq0.false) in
    defining-push c.args.sections.now.items c.push.new.self.items _ before ds around rows c.in_ok-push.ensures.items (omega (arith, size, some)) (ap defined (same some)) are
