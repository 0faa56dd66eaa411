use Rattle.markdown_tokenizer.proofs.Prelude.{◌-◌, ◌≤◌, ◌<◌, AreOverUpto}
use Rattle.markdown_tokenizer.proofs.tokenizer.running.over_from.Given as goal

abbrev pub invariant-loop-at : goal.invariant-loop-at
invariant-loop-at g l = record {
  from : l.from ≤ l.at;
  until : l.from < l.at → l.at ≤ l.until;
  over : AreOverUpto (g.M.Machine.rules l.machine) l.fn.name l.bytes l.from l.at l.last;
}

abbrev pub decreases-loop-at : goal.decreases-loop-at
decreases-loop-at g l = l.until - l.at
