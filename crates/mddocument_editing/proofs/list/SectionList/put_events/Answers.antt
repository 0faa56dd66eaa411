use Rattle.mddocument_editing.proofs.Prelude.{length, get_or, subst, ap, arith}
use Rattle.mddocument_editing.specs.Listed.{AreSums, block}
use Rattle.mddocument_editing.proofs.Rereads.{length-put-all}
use Rattle.mddocument_editing.proofs.list.SectionList.put_events.Goals as goal

pub sum_again-requires-clause-few : goal.sum_again-requires-clause-few
sum_again-requires-clause-few c =
    omega (arith, c.self.invariant.few, ap length c.as_slice.ensures.value, ap length c.put_events.ensures, length-put-all c.args.others.items c.self.inside.sections.items)

pub invariant_of-self : goal.invariant_of-self
invariant_of-self c =
    let size = length-put-all c.args.others.items c.self.inside.sections.items in
    record {
      all = omega (arith, c.self.invariant.all, c.sum_again.ensures.len, ap length c.put_events.ensures, size);
      few = omega (arith, c.self.invariant.few, c.sum_again.ensures.len, ap length c.put_events.ensures, size);
      each = λ number d lt.
          subst (λ l. AreSums (block number l) (get_or c.sum_again.new.blocks.items number d)) c.as_slice.ensures.value
          (c.sum_again.ensures.each number d (omega arith) (omega (arith, lt, c.len-count.ensures, c.self.inside.blocks.ok.0, c.sum_again.ensures.len)));
    }
