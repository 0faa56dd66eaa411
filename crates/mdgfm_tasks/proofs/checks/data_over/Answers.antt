use Rattle.std.proofs.Common.{◌∙◌, sym, arith}
use Rattle.std.proofs.lemmas.Bool.{lt-leb}
use Rattle.mdgfm_tasks.proofs.Loops.{data_ends, data_goes_on}
use Rattle.mdgfm_tasks.proofs.checks.data_over.Goals as goal

pub loop-next-preserved : goal.loop-next-preserved
loop-next-preserved c = record {
  same = data_goes_on c.args.at c.args.many c.args.events.now c.loop-next.next _ c.loop-next-test.true _ c.loop-next.invariant.same
      (sym c.is_data.ensures ∙ c.if-not-is_data.false) (lt-leb _ _ (omega (arith, c.saturating_sub.ensures, c.if-saturating_sub-many.false)));
  room = omega (arith, c.loop-next-test.true);
}

pub returns-clause-value : goal.returns-clause-value
returns-clause-value c =
    data_ends c.args.at c.args.many c.args.events.now c.loop-next.next _ c.loop-next.invariant.same (omega (arith, c.loop-next-test.false))
