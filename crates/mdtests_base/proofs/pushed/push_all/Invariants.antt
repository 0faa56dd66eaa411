use Rattle.mdtests_base.proofs.Prelude.{drop, HasRanges}
use Rattle.mdtests_base.proofs.pushed.push_all.Given as goal

abbrev pub invariant-loop-gap : goal.invariant-loop-gap
invariant-loop-gap g l = HasRanges g.M.Machine.rules l.fn.parse_state.bytes.now l.fn.parse_state.options.now (drop l.gap-index l.ranges) l.tokenizer l.state
