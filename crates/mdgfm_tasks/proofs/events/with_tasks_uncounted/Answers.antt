use Rattle.std.proofs.Common.{◌∙◌, sym, ap}
use Rattle.mdgfm_tasks.specs.declared.awaited.Awaited.TheVariants.{Nothing}
use Rattle.mdgfm_tasks.specs.Checks.{has_check}
use Rattle.mdgfm_tasks.proofs.Unchanged.{with-none}
use Rattle.mdgfm_tasks.proofs.events.with_tasks_uncounted.Goals as goal

pub returns-then-not-has_check-clause-events : goal.returns-then-not-has_check-clause-events
returns-then-not-has_check-clause-events g c =
    sym (with-none c.args.tab c.args.bytes.now Nothing c.args.events.items
    (ap (λ es. has_check c.args.bytes.now Nothing es) (sym c.as_slice.ensures.value) ∙ sym c.has_check.ensures ∙ c.if-not-has_check.true))
