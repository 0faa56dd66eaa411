use Rattle.std.proofs.Common.{◌≤◌, arith, refl}
use Rattle.mdblock_definitions.proofs.SectionLemmas.{tabled-none, tabled-push}
use Rattle.mdblock_definitions.proofs.sections.push_table.Goals as goal

pub returns-then-lines-eq0 : goal.returns-then-lines-eq0
returns-then-lines-eq0 c = λ around rows size before are. tabled-none c.args.sections.now.items before around rows (omega (arith, size, c.if-lines-eq0.true)) are

pub returns : goal.returns
returns c = λ around rows size before are.
    let some : 1 ≤ c.args.lines = omega (arith, c.if-lines-eq0.false) in
    tabled-push c.args.sections.now.items c.push.new.self.items _ before around rows c.in_ok-push.ensures.items (omega (arith, size, some)) refl are
