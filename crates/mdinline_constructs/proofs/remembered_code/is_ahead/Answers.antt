use Rattle.mdinline_constructs.proofs.Prelude.{sym, ◌∙◌, le-ltb}
use Rattle.mdinline_constructs.proofs.RememberedCode.Runs.{ahead-is, ahead-none}
use Rattle.mdinline_constructs.proofs.remembered_code.is_ahead.Goals as goal

pub returns-then-length-runs : goal.returns-then-length-runs
returns-then-length-runs c = c.is_seen_from.ensures ∙ sym (ahead-is c.args.runs.now c.args.length c.args.index _ c.if-length-runs.true)

pub returns-else-length-runs : goal.returns-else-length-runs
returns-else-length-runs c = le-ltb _ _ c.if-length-runs.false ∙ sym (ahead-none c.args.runs.now c.args.length c.args.index c.if-length-runs.false)
