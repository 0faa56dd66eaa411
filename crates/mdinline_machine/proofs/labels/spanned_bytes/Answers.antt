use Rattle.std.proofs.Common.{ap, arith, ◌++◌, ◌∙◌}
use Rattle.markdown_base.proofs.SliceLemmas.{filler}
use Rattle.mdinline_machine.proofs.LabelBytes.{spanned-all, spanned-next}
use Rattle.mdinline_machine.proofs.labels.spanned_bytes.Goals as goal

pub loop-next-preserved : goal.loop-next-preserved
loop-next-preserved c =
    let old = c.loop-next.spanned.items in
    record {
      written = spanned-next c.args.bytes.now c.args.events.now c.loop-next.next filler old c.extend_from_slice.new.self.items c.loop-next.invariant.begun c.loop-next-test.true
          (c.in_ok-extend_from_slice.ensures.items ∙ ap (λ l. old ++ l) c.span_bytes.ensures) c.loop-next.invariant.written;
      begun = omega arith;
    }

pub returns : goal.returns
returns c = spanned-all c.args.bytes.now c.args.events.now c.loop-next.next c.loop-next.spanned.items c.loop-next.invariant.begun c.loop-next-test.false c.loop-next.invariant.written
