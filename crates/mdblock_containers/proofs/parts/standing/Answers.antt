use Rattle.mdblock_lines.specs.declared.containers.ContainerKind.TheVariants as kinds
use Rattle.std.proofs.Common.{◌≡◌, false, length, min, sym, ◌∙◌, arith}
use Rattle.std.specs.Prelude.{max}
use Rattle.std.proofs.lemmas.Bool.{false≢true}
use Rattle.mdblock_containers.specs.declared.going.Open.{Open}
use Rattle.mdblock_containers.proofs.PartLemmas.{first_asked_is, passed_more, stands_step, stands_end}
use Rattle.mdblock_containers.proofs.parts.standing.Goals as goal

pub loop-n-init : goal.loop-n-init
loop-n-init g c =
    let no : Open = record { container = record { kind = kinds.Quote; is_near = false; line = 0; size = 0; marker = 0; digits = 0; is_blank = false; label = 0 }; list = 0 } in
    let size : c.first_asked-n.result ≡ min (length c.args.stack.now) (max c.args.passed c.args.many) = c.first_asked-n.ensures in
    let is = first_asked_is c.args.stack.now c.args.many c.args.number no c.first_asked-n.result c.args.passed size c.requires in
    record { within = omega (arith, size); least = omega (arith, size); most = omega (arith, size); asked = omega (arith, size); turns = omega (arith, size); passed = is.1; same = is.0 }

pub loop-n-preserved : goal.loop-n-preserved
loop-n-preserved g c = record {
  within = omega arith;
  least = omega (arith, c.loop-n.invariant.least, c.loop-n-test.true);
  most = omega (arith, c.loop-n.invariant.most);
  asked = omega (arith, c.loop-n.invariant.asked, c.add_one.ensures, c.loop-n-test.true);
  turns = omega (arith, c.loop-n.invariant.turns, c.add_one.ensures, c.loop-n-test.true);
  passed = passed_more c.args.stack.now c.args.number c.loop-n.n _ (omega arith) c.loop-n.invariant.within (sym c.is_earlier.ensures ∙ c.if-is_earlier.true) c.loop-n.invariant.passed;
  same = c.loop-n.invariant.same ∙ stands_step c.args.stack.now c.args.many c.args.number _ c.loop-n.n c.loop-n-test.true c.loop-n.invariant.within (sym c.is_earlier.ensures ∙ c.if-is_earlier.true);
}

pub returns-else-is_earlier-clause-value : goal.returns-else-is_earlier-clause-value
returns-else-is_earlier-clause-value g c =
    stands_end c.args.stack.now c.args.many c.args.number _ c.args.is_blank c.loop-n.n c.if-not-is_blank.false c.loop-n.invariant.within (λ m. sym c.is_earlier.ensures ∙ c.if-is_earlier.false) c.loop-n.invariant.same

pub returns-after-loop-n-clause-value : goal.returns-after-loop-n-clause-value
returns-after-loop-n-clause-value g c =
    stands_end c.args.stack.now c.args.many c.args.number (record { container = record { kind = kinds.Quote; is_near = false; line = 0; size = 0; marker = 0; digits = 0; is_blank = false; label = 0 }; list = 0 }) c.args.is_blank c.loop-n.n c.if-not-is_blank.false c.loop-n.invariant.within
    (λ m. absurd (omega (arith, m))) c.loop-n.invariant.same

pub returns-then-not-is_blank-clause-passed : goal.returns-then-not-is_blank-clause-passed
returns-then-not-is_blank-clause-passed g c = λ b. absurd (false≢true (sym c.if-not-is_blank.true ∙ b))

pub returns-else-is_earlier-clause-passed : goal.returns-else-is_earlier-clause-passed
returns-else-is_earlier-clause-passed g c = λ b. c.loop-n.invariant.passed

pub returns-after-loop-n-clause-passed : goal.returns-after-loop-n-clause-passed
returns-after-loop-n-clause-passed g c = λ b. c.loop-n.invariant.passed

pub returns-then-not-is_blank-clause-least : goal.returns-then-not-is_blank-clause-least
returns-then-not-is_blank-clause-least g c = λ b. absurd (false≢true (sym c.if-not-is_blank.true ∙ b))

pub returns-else-is_earlier-clause-least : goal.returns-else-is_earlier-clause-least
returns-else-is_earlier-clause-least g c = λ b. c.loop-n.invariant.least

pub returns-after-loop-n-clause-least : goal.returns-after-loop-n-clause-least
returns-after-loop-n-clause-least g c = λ b. c.loop-n.invariant.least

pub returns-then-not-is_blank-clause-below : goal.returns-then-not-is_blank-clause-below
returns-then-not-is_blank-clause-below g c = λ b. absurd (false≢true (sym c.if-not-is_blank.true ∙ b))

pub returns-else-is_earlier-clause-below : goal.returns-else-is_earlier-clause-below
returns-else-is_earlier-clause-below g c = λ b. c.loop-n.invariant.most

pub returns-after-loop-n-clause-below : goal.returns-after-loop-n-clause-below
returns-after-loop-n-clause-below g c = λ b. c.loop-n.invariant.most

pub returns-then-not-is_blank-clause-asked : goal.returns-then-not-is_blank-clause-asked
returns-then-not-is_blank-clause-asked g c = λ b. absurd (false≢true (sym c.if-not-is_blank.true ∙ b))

pub returns-else-is_earlier-clause-asked : goal.returns-else-is_earlier-clause-asked
returns-else-is_earlier-clause-asked g c = λ b. c.loop-n.invariant.asked

pub returns-after-loop-n-clause-asked : goal.returns-after-loop-n-clause-asked
returns-after-loop-n-clause-asked g c = λ b. c.loop-n.invariant.asked
