use Rattle.std.proofs.lemmas.List.{get_or_default}
use Rattle.mdtests_engine.proofs.Prelude.{◌≡◌, ⊎_elim, length, get_or, sym, ap, subst, arith, ◌∙◌, cases_eq, EndsBelow}
use Rattle.mdtests_engine.proofs.division.has_ends_within.Goals as goal

pub loop-event-preserved : goal.loop-event-preserved
loop-event-preserved c = λ k d l. ⊎_elim
    (λ (s : k ≡ c.loop-event.event-index).
    subst (EndsBelow (length c.args.events.now)) (get_or_default c.args.events.now c.loop-event.event-index _ d c.loop-event-test.true ∙ ap (λ n. get_or c.args.events.now n d) (sym s)) (c.has_ends_below.ensures c.if-not-has_ends_below.false))
    (λ (s : k ≡ c.loop-event.event-index → ⊥). c.loop-event.invariant k d (omega arith))
    (cases_eq k c.loop-event.event-index)
