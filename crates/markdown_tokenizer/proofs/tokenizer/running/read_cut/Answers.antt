use Rattle.markdown_tokenizer.proofs.Prelude.{refl}
use Rattle.markdown_tokenizer.proofs.Runs.Cuts.{at-start, at-next, at-end, at-last}
use Rattle.markdown_tokenizer.proofs.Runs.Whole.{run-flushed, run-refused, ok-if}
use Rattle.markdown_tokenizer.proofs.tokenizer.running.read_cut.Goals as goal

pub loop-cut-init : goal.loop-cut-init
loop-cut-init g c = at-start g.met.M.Machine.lawful c.requires.document c.requires.start c.requires.cuts _ c.requires.begins

pub loop-cut-preserved : goal.loop-cut-preserved
loop-cut-preserved g c = at-next c.loop-cut.invariant _ _ c.loop-cut-test.true c.in_ok-state.ensures.ok

pub flush-requires : goal.flush-requires
flush-requires g c = record { holds = λ _. at-end c.loop-cut.invariant _ _ c.in_ok-state-2.ensures.ok }

pub returns : goal.returns
returns g c =
    let e = at-last c.loop-cut.invariant c.push-2.new.self c.in_ok-state-2.state c.in_ok-state-2.ensures.ok in
    record {
      ok = ok-if c.flush.result _ _ (λ sub f. run-flushed g.M.Machine.rules _ _ _ _ _ _ e c.args.resolve c.flush.new.self c.flush.new.self.configuration.events sub f refl) c.flush.ensures.ok;
      message = λ message is. run-refused g.M.Machine.rules _ _ _ _ _ _ e c.args.resolve c.flush.new.self message (c.flush.ensures.message message is);
      err = c.flush.ensures.err e.open_still;
    }
