use Rattle.mdprograms.proofs.Prelude.{arith, length-drop, take-add, Appends-trans, take_rest}
use Rattle.mdprograms.proofs.write.write_all.Goals as goal

pub writing-preserved : goal.writing-preserved
writing-preserved g c =
    let text = c.args.text.now in
    let written = c.writing.written in
    let rest = take_rest text written in
    let bound = simp (take_rest, length-drop) at c.in-Ok.ensures.bound in
    record {
      inside = omega arith;
      front = rw (take-add, ← rest) (Appends-trans _ _ _ _ _ c.writing.invariant.front c.in-Ok.ensures.bytes);
    }
