-- The laws of a machine whose table passes the test.
use Rattle.mdconstructs_tables.proofs.Prelude.{◌≡◌, ◌≢◌, ◌≤◌, List, [], ◌++◌, Bool, true, Option, Some, None, length, map, refl, sym, ap, ◌∙◌, subst, arith, ◌⊎◌, inl, inr, take, length-append, All, IfSome, nat_lt, flat_map, take-append_seam, and_parts, take-map, length-map, All-contains, Name, Next, Retry, Ok, Nok, unlinked, Byte, Given, Text, IsText, followed_by, Configuration, Choice, Step, Sight, sight, consumed, with_local, IsAsFar, ConsumesOnce, OnlyAdds, SavesEvents, EndsWhenRead, KeepsInvariant, Rows, row, when, Row, StateRows, Table, with_choice_of, chooses, picked, step_of, row_at, named, step_at, table_step, IsFitBy, misfit, named_misfit, named_start, acts_fit, spans_fit, choices_fit, saves, allows_all, is_called_at, is_called, fits_choices, fits_row, fits_calls, start_shape, all_rows, may_start, outline, SightIsInOrder, IsFed, began_at, IsStateAt, HoldsAt, table_holds, table_rules, cond_both, EventName}
use Rattle.std.proofs.lemmas.List.Elements.{All-from_recursion}
use Rattle.mdconstructs_tables.proofs.Rows.Misfits.{none-left, none-made, named-in, all-passed, called-none, starts-none}
use Rattle.mdconstructs_tables.proofs.Rows.Laws.{below_all, has-after-all, chooses-append, chooses-save, adds-all}
use Rattle.mdconstructs_tables.proofs.GrowingTexts.{fed-position, extends}
use Rattle.mdconstructs_tables.proofs.Tables.Waiting.{all-front, waits-after-all}
use Rattle.mdconstructs_tables.proofs.Tables.Holding.{called-fed, of_class, before_class, met-at, read-before, waits-at, begins, ahead-at, start-sight, row_of, left_by, chosen_by, shape_of, IsCall, once, inside-at, answered, longer, fed-at, starts-at, well, badly, inside-after, KeepsStack, keeps-all}

-- a test that all rows pass is passed by the one that is picked
module _ {R D : Type 0} where
  pub picked-passes : (test : Row R D → Bool) (rows : Rows R D) (g : Given) (s : Sight) (k : Configuration R D) → all_rows test rows ≡ true → test (picked rows g s k) ≡ true
  picked-passes test (row acts answer) g s k h = h
  picked-passes test (when by one other) g s k h =
      let (first, second) = and_parts _ _ h in cond_both (by g s k) (picked one g s k) (picked other g s k) (λ r. test r ≡ true) (λ e. picked-passes test one g s k first) (λ e. picked-passes test other g s k second)

module _ {W R D : Type 0} (table : Table W R D) (g : Given) {early : Name → Option W → Bool} {falling : Name → Bool} (fit : IsFitBy table early falling) where
  -- a state that is called fits
  pub state-fits : (b w : Option W) (name : Name) (state : StateRows W R D) → named table.states name ≡ Some state → is_called table.states w state ≡ true
      → (all_rows (fits_row table.states b w state) (state.rows b w) ≡ true) × (fits_calls table.states b w state state.cost ≡ true)
  state-fits b w name state is called =
      let f = named_misfit table.states b w in
      let none = none-left (flat_map f table.states) (flat_map (named_start table.states) table.starts) (fit.fits b w) in
      let its_none = (named-in (λ l. flat_map f l ≡ []) (λ x. f x ≡ []) (λ x xs. none-left (f x) (flat_map f xs)) table.states name state none.0 is).0 in
      all-passed (acts_fit table.states b w state) (spans_fit table.states b w state) (choices_fit table.states b w state) (all_rows (fits_row table.states b w state) (state.rows b w))
      (fits_calls table.states b w state state.cost) (called-none (is_called table.states w state) state.name (misfit table.states b w state) called its_none)

  module _ (text : Text) (k : Configuration R D) (choices : List Choice) (name : Name) (inside : k.position ≤ length text.seats) (waits : IsFed k.waiting k.position k.ended text)
      (order : SightIsInOrder k.waiting (sight g text k)) where
    called : (o : Option (StateRows W R D)) → named table.states name ≡ o → IsStateAt table g text o (λ state. began_at (of_class table g text k) state (sight g text k)) k choices → IsCall table g text k choices name
    called None is h = absurd h
    called (Some state) is h =
        let s = sight g text k in
        let w = of_class table g text k in
        let b = before_class table g text k in
        let k1 = with_local k (table.first k.local) in
        let r = row_at table.class state g s k1 in
        let met = met-at table g text k k.waiting refl waits in
        let read = read-before table g text k.position inside in
        let at_it = called-fed state.called k.ended w (subst (λ w. is_called_at state.called k.ended w ≡ true) (waits-at table g k.waiting text k.position k.ended waits) h.spans.called) in
        let (rows_fit, paid) = state-fits b w name state is at_it in
        let (allowed, more) = and_parts (allows_all r.acts (start_shape b w state)) _ (picked-passes (fits_row table.states b w state) (state.rows b w) g s k1 rows_fit) in
        let (with_choice_of, answers) = and_parts (fits_choices table.states w r.acts (start_shape b w state)) _ more in
        let first = begins table g b w text k (table.first k.local) h.base choices state read met (fit.kept k.local) h.noted h.spans in
        let sees = ahead-at table g w text k met order in
        record {
          state = state;
          is = is;
          base = h.base;
          above = below_all r.acts (start_shape b w state) h.base;
          stack = h.spans.stack;
          waiting = h.waiting;
          fits_it = answers;
          fits_calls_too = paid;
          called = at_it;
          met = met;
          shape = has-after-all r.acts (start_shape b w state) h.base s g text k k1 choices allowed sees (start-sight table g w s) first;
          wait_on = waits-after-all table.class table.states g text r.acts k w refl (start_shape b w state) h.base s k1 choices allowed with_choice_of sees first (start-sight table g w s) h.waiting;
        }

  -- a call for which the invariant holds
  pub is-call : (text : Text) (k : Configuration R D) (choices : List Choice) (name : Name) → IsText g text → table_holds table g text k choices (Retry name) → IsCall table g text k choices name
  is-call text k choices name is h = called text k choices name h.0 h.1.0 h.1.1 (named table.states name) refl h.1.2

  -- what holds of the rows' steps holds of the step of a name that is called
  pub each-call : (P : Step R D → Type 0) (text : Text) (k : Configuration R D) (choices : List Choice) (name : Name) → IsText g text → table_holds table g text k choices (Retry name)
      → ((c : IsCall table g text k choices name) → P (step_of (row_of table g text k c.state) (sight g text k) (with_local k (table.first k.local)))) → P (table_step table g (sight g text k) k name)
  each-call P text k choices name is h f =
      let c = is-call text k choices name is h in
      subst (λ o. P (step_at table g o (sight g text k) (with_local k (table.first k.local)))) (sym c.is) (f c)

  pub table-consumes_once : ConsumesOnce g (table_rules table g)
  table-consumes_once text k choices name is h =
      each-call
      (λ q. (IsAsFar q.configuration k × ((n : Name) → q.answer ≢ Next n)) ⊎ ((k.waiting ≡ Byte) × IsAsFar q.configuration (consumed k) × ((n : Name) → q.answer ≢ Retry n)))
      text k choices name is h
      (λ c. once table g _ (before_class table g text k) (of_class table g text k) _ (row_of table g text k c.state).answer text k (left_by table g text k c.state) c.fits_it
      c.shape.reads.0 c.shape.reads.1)

  pub table-only_adds : OnlyAdds g (table_rules table g)
  table-only_adds = record {
    events = λ text k choices name is h.
        each-call (λ q. map unlinked (take (length k.events) q.configuration.events) ≡ map unlinked k.events) text k choices name is h
        (λ c.
        let (more, grown) = adds-all (row_of table g text k c.state).acts (sight g text k) (with_local k (table.first k.local)) in
        sym (take-map unlinked (length k.events) (left_by table g text k c.state).events) ∙ ap (take (length k.events)) grown
        ∙ ap (λ n. take n (outline k ++ more)) (sym (length-map k.events unlinked)) ∙ take-append_seam (outline k) more);
    stack = λ text k choices name is h.
        each-call (λ q. All (KeepsStack table g k.stack q.configuration.stack) choices) text k choices name is h
        (λ c.
        let new = left_by table g text k c.state in
        let chosen = chosen_by table g text k choices c.state in
        let made = chooses (row_of table g text k c.state).acts (sight g text k) (with_local k (table.first k.local)) [] in
        let wait : made ++ choices ≡ chosen = chooses-append (row_of table g text k c.state).acts (sight g text k) (with_local k (table.first k.local)) [] choices in
        let P = λ (stack : List EventName) (c : Choice). IfSome c.saved (λ s. take (length s.stack) stack ≡ s.stack) in
        let after_it = subst (λ stack. All (P stack) chosen) (sym c.shape.stack)
        (all-front table.class table.states g text chosen c.above (shape_of table g text k c.state).spans new.position (outline new) c.wait_on) in
        let before_it = subst (λ stack. All (P stack) choices) (sym c.stack) (all-front table.class table.states g text choices c.base c.state.spans k.position (outline k) c.waiting) in
        keeps-all table g k.stack new.stack made choices (subst (All (P new.stack)) (sym wait) after_it) before_it);
    choices = λ text k choices name is h.
        let n = length k.events in
        each-call (λ q. All (SavesEvents n) q.choices) text k choices name is h
        (λ c.
        let acts = (row_of table g text k c.state).acts in
        let k1 = with_local k (table.first k.local) in
        All-from_recursion (SavesEvents n) (chooses acts (sight g text k) k1 []) (chooses-save n acts (sight g text k) k1 [] (omega arith) tt));
  }

  pub table-ends_when_read : EndsWhenRead g (table_rules table g)
  table-ends_when_read = record {
    nok = λ text k is h. h.1.any;
    ok = λ text k is h. (elim h.1.ended [ inl any ↦ absurd any | inr ended ↦ ended ], h.1.stack ∙ h.1.waiting);
  }

  pub table-invariant_kept : KeepsInvariant g (table_rules table g)
  table-invariant_kept = record {
    at_starts = λ p flag name is start.
        let none = none-left (flat_map (named_misfit table.states None None) table.states) (flat_map (named_start table.states) table.starts) (fit.fits None None) in
        let its_none = All-contains (λ n. named_start table.states n ≡ []) table.starts name (none-made (named_start table.states) table.starts none.1) start in
        (omega arith, (refl, starts-at table g (named table.states name) p _ flag (starts-none (may_start table.states (named table.states name)) name its_none)));
    unfed = λ text k choices name is h. h.1.0;
    waits = λ text k choices name is h. λ e. rw e at h.1.0;
    by_feeding = λ text k choices name is h. (omega (arith, fed-position text k, h.0), fed-at table g (nat_lt k.position (length text.seats)) text k choices name is refl h.1);
    by_calls = λ text k choices name is h.
        each-call (λ q. table_holds table g text q.configuration (q.choices ++ choices) q.answer) text k choices name is h
        (λ c.
        let w = of_class table g text k in
        let b = before_class table g text k in
        let r = row_of table g text k c.state in
        let inside = inside-at table g _ text k (left_by table g text k c.state) c.shape.reads.0 c.shape.reads.1 h.0 in
        let holds = answered table g _ b w _ c.above r.answer text k (left_by table g text k c.state) (chosen_by table g text k choices c.state) is inside (read-before table g text k.position h.0) h.1.0 h.1.1 refl c.met c.fits_it refl c.shape c.wait_on in
        (inside, subst (λ cs. HoldsAt table g text (left_by table g text k c.state) cs r.answer) (sym (chooses-append r.acts (sight g text k) (with_local k (table.first k.local)) [] choices)) holds));
    by_ok = λ text k choice choices is h.
        let w = h.1.waiting.0 in (
          inside-after table g choice.kind choice.saved Ok (saves choice.kind choice.nok) text k h.1.base w.frame h.0 w.saved,
          well table g text k choices w.frame h.1.base w.below w.stack_is w.within choice.kind choice.ok choice.nok (saves choice.kind choice.nok) choice.saved refl w.fits w.saved h.1.waiting.1 h.1.stack h.1.began,
        );
    by_nok = λ text k choice choices is h.
        let w = h.1.waiting.0 in (
          inside-after table g choice.kind choice.saved Nok (saves choice.kind choice.nok) text k h.1.base w.frame h.0 w.saved,
          badly table g text k choices w.frame h.1.base w.below w.stack_is w.within choice.kind choice.ok choice.nok (saves choice.kind choice.nok) choice.saved refl w.fits w.saved h.1.waiting.1 h.1.any,
        );
    by_pieces = λ text piece k choices state is fits fresh h.
        let e = extends g text piece in
        (omega (arith, h.0, ap length e.seats, length-append text.seats e.more), longer table g state text (followed_by g text piece) k choices e fresh h.0 h.1);
  }
