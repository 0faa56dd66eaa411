-- The invariant of the machine that wraps says nothing of definitions.
use Rattle.mdconstructs_tables.proofs.Rows.Laws.{of-noted, where-noted}
use Rattle.mdtests_machines.proofs.Prelude.{ℕ, List, Bool, Option, Some, None, Point, State, Next, Retry, Ok, Nok, Error, Given, Text, Configuration, Choice, StateRows, named, IsStateAt, LineByte, wrap, wrap_rules, Resolver, with_definition}

module _ (refuse : Bool) (g : Given) (text : Text) (k : Configuration Resolver Unit) (choices : List Choice) (label : List ℕ) where
  at-state : (o : Option (StateRows LineByte Resolver Unit)) (where_to : StateRows LineByte Resolver Unit → (any : Bool) → Point → Bool) → IsStateAt wrap g text o where_to k choices → IsStateAt wrap g text o where_to (with_definition k label) choices
  at-state None where_to h = absurd h
  at-state (Some state) where_to h = record {
    base = h.base;
    spans = record { stack = h.spans.stack; began = h.spans.began; void = h.spans.void; below = h.spans.below; needs = h.spans.needs; called = h.spans.called };
    noted = where-noted state.noted (λ is.
        let (before, places) = of-noted state.noted is h.noted in
        (record { position = before.position; read = before.read; at = record { is = before.at.is; began = before.at.began }; exit_before = before.exit_before; enter_before = before.enter_before }, places));
    waiting = h.waiting;
  }

  pub found-holds : (state : State) → (wrap_rules refuse g).holds text k choices state → (wrap_rules refuse g).holds text (with_definition k label) choices state
  found-holds (Next name) h = (h.0, (h.1.0, (h.1.1.0, at-state (named wrap.states name) _ h.1.1.1)))
  found-holds (Retry name) h = (h.0, (h.1.0, (h.1.1.0, h.1.1.1, at-state (named wrap.states name) _ h.1.1.2)))
  found-holds Ok h = (h.0, (h.1.0, record { base = h.1.1.base; stack = h.1.1.stack; began = h.1.1.began; waiting = h.1.1.waiting; ended = h.1.1.ended }))
  found-holds Nok h = (h.0, (h.1.0, record { base = h.1.1.base; waiting = h.1.1.waiting; any = h.1.1.any }))
  found-holds (Error message) h = (h.0, (h.1.0, tt))
