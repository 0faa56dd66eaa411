use Rattle.std.proofs.Common.{sym}
use Rattle.mdinline_labels.specs.Defined.{defines}
use Rattle.mdgfm_footnotes.proofs.Unchanged.{nothing-noted}
use Rattle.mdgfm_footnotes.proofs.events.with_calls_by.Goals as goal

pub returns-then-is_empty-clause-events : goal.returns-then-is_empty-clause-events
returns-then-is_empty-clause-events c =
    sym (nothing-noted (defines c.args.noted.now) c.args.options.now c.args.bytes.now c.args.events.items (c.is_empty.ensures.none c.if-is_empty.true))
