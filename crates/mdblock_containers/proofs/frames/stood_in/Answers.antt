use Rattle.mdblock_lines.specs.declared.containers.ContainerKind.TheVariants as kinds
use Rattle.std.proofs.Common.{◌-◌, ap, arith}
use Rattle.std.specs.Prelude.{false}
use Rattle.mdblock_containers.specs.declared.frames.Stood.{Stood}
use Rattle.mdblock_containers.specs.declared.going.Open.{Open}
use Rattle.mdblock_containers.proofs.StoodLemmas.{stood_enough, stood_inside, stood_less}
use Rattle.mdblock_containers.proofs.frames.stood_in.Goals as goal

-- what the code reads where there is nothing
abbrev no : Open
no = record { container = record { kind = kinds.Quote; is_near = false; line = 0; size = 0; marker = 0; digits = 0; is_blank = false; label = 0 }; list = 0 }

pub bounds-stack-containers : goal.bounds-stack-containers
bounds-stack-containers g c =
    let s : Stood = record { containers = c.loop-containers.containers; spans = c.loop-containers.spans } in
    stood_inside s c.args.stack.now c.loop-containers.invariant.is no (omega arith)

pub overflow_sub-spans : goal.overflow_sub-spans
overflow_sub-spans g c =
    let s : Stood = record { containers = c.loop-containers.containers; spans = c.loop-containers.spans } in
    let enough = stood_enough s c.args.stack.now c.loop-containers.invariant.is no (omega arith) in
    omega (arith, enough, c.spans_of-spans.ensures)

pub loop-containers-preserved : goal.loop-containers-preserved
loop-containers-preserved g c =
    let s : Stood = record { containers = c.loop-containers.containers; spans = c.loop-containers.spans } in
    record {
      is = stood_less s c.args.stack.now c.loop-containers.invariant.is no (omega arith) _ (ap (λ n. c.loop-containers.spans - n) c.spans_of-spans.ensures);
      fewer = omega (arith, c.loop-containers.invariant.fewer);
      least = omega (arith, c.loop-containers.invariant.least, c.loop-containers-test.true);
      turns = omega (arith, c.loop-containers.invariant.turns, c.add_one.ensures, c.loop-containers-test.true);
    }
