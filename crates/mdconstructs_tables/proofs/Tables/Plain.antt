-- A table without links whose writes are plain keeps that nothing is there to resolve, and is lawful if it fits. A plain table is one.
use Rattle.markdown_tokenizer.proofs.Readings.Plain as machines
use Rattle.mdconstructs_tables.proofs.Prelude.{◌≡◌, List, [], ◌∷◌, true, Option, Some, None, refl, and_parts, Given, Configuration, Sight, with_local, consumed, IsLawful, IsPlain, KeepsPlain, plain, no-links-more, Act, enters, exit, consume, writes, choose, note, exit_noted, enter_noted, Rows, row, when, StateRows, Table, class_of, past, shown_sight, done, does, picked, row_at, named, step_at, table_step, table_rules, IsFit, are_plain_acts, are_plain_rows, are_plain_states, IsPlainTable, WritePlain, RowsWritePlain, StatesWritePlain, WritesPlain, cond_both}
use Rattle.mdconstructs_tables.proofs.Rows.Misfits.{named-in}
use Rattle.mdconstructs_tables.proofs.Tables.Prices.{table-cost_pays}
use Rattle.mdconstructs_tables.proofs.Tables.Laws.{table-consumes_once, table-only_adds, table-ends_when_read, table-invariant_kept}

module _ {R D : Type 0} where
  -- acts keep it, and what else was said holds
  does-plain : (acts : List (Act R D)) (s : Sight) (k : Configuration R D) (P : Type 0) → WritePlain acts P → IsPlain k → IsPlain (does acts s k) × P
  does-plain [] s k P h plain = (plain, h)
  does-plain (enters name None ∷ acts) s k P h plain = does-plain acts s (done (enters name None) s k) P h (plain.0, plain.1, no-links-more k.events _ refl plain.2)
  does-plain (writes f ∷ acts) s k P h plain = does-plain acts s (with_local k (f (shown_sight s) k)) P h.1 (h.0 (shown_sight s) k plain)
  does-plain (exit name ∷ acts) s k P h plain = does-plain acts s (done (exit name) s k) P h (plain.0, plain.1, no-links-more k.events _ refl plain.2)
  does-plain (consume ∷ acts) s k P h plain = does-plain acts (past s) (consumed k) P h plain
  does-plain (choose kind ok nok ∷ acts) s k P h plain = does-plain acts s k P h plain
  does-plain (note ∷ acts) s k P h plain = does-plain acts s (done note s k) P h plain
  does-plain (exit_noted name ∷ acts) s k P h plain = does-plain acts s (done (exit_noted name) s k) P h (plain.0, plain.1, no-links-more k.events _ refl plain.2)
  does-plain (enter_noted name ∷ acts) s k P h plain = does-plain acts s (done (enter_noted name) s k) P h (plain.0, plain.1, no-links-more k.events _ refl plain.2)
  does-plain acts s k P h plain = absurd h

  picked-plain : (rows : Rows R D) (g : Given) (s : Sight) (at k : Configuration R D) (P : Type 0) → RowsWritePlain rows P → IsPlain k → IsPlain (does (picked rows g s at).acts s k) × P
  picked-plain (row acts answer) g s at k P h plain = does-plain acts s k P h plain
  picked-plain (when test one other) g s at k P h plain =
      let (first, rest) = picked-plain one g s at k (RowsWritePlain other P) h plain in
      let (second, last) = picked-plain other g s at k P rest plain in
      (cond_both (test g s at) (picked one g s at) (picked other g s at) (λ r. IsPlain (does r.acts s k)) (λ e. first) (λ e. second), last)

  -- acts, rows and states that pass the test write nothing
  acts-plain : (acts : List (Act R D)) (P : Type 0) → are_plain_acts acts ≡ true → P → WritePlain acts P
  acts-plain [] P e h = h
  acts-plain (enters name None ∷ acts) P e h = acts-plain acts P e h
  acts-plain (exit name ∷ acts) P e h = acts-plain acts P e h
  acts-plain (consume ∷ acts) P e h = acts-plain acts P e h
  acts-plain (choose kind ok nok ∷ acts) P e h = acts-plain acts P e h
  acts-plain (note ∷ acts) P e h = acts-plain acts P e h
  acts-plain (exit_noted name ∷ acts) P e h = acts-plain acts P e h
  acts-plain (enter_noted name ∷ acts) P e h = acts-plain acts P e h
  acts-plain acts P e h = absurd (cc)

  rows-plain : (rows : Rows R D) (P : Type 0) → are_plain_rows rows ≡ true → P → RowsWritePlain rows P
  rows-plain (row acts answer) P e h = acts-plain acts P e h
  rows-plain (when test one other) P e h = let parts = and_parts (are_plain_rows one) (are_plain_rows other) e in rows-plain one (RowsWritePlain other P) parts.0 (rows-plain other P parts.1 h)

module _ {W R D : Type 0} where
  states-plain : (states : List (StateRows W R D)) (b w : Option W) → are_plain_states states b w ≡ true → StatesWritePlain states b w
  states-plain [] b w e = tt
  states-plain (state ∷ states) b w e =
      let parts = and_parts (are_plain_rows (state.rows b w)) (are_plain_states states b w) e in rows-plain (state.rows b w) (StatesWritePlain states b w) parts.0 (states-plain states b w parts.1)

  -- the step of a name leaves nothing to resolve, if the row of the state of that name does
  step-plain : (table : Table W R D) (g : Given) (o : Option (StateRows W R D)) (s : Sight) (k : Configuration R D)
      → ((state : StateRows W R D) → o ≡ Some state → IsPlain (does (row_at table.class state g s k).acts s k)) → IsPlain k → IsPlain (step_at table g o s k).configuration
  step-plain table g None s k each h = h
  step-plain table g (Some state) s k each h = each state refl

  pub table-keeps_plain : (table : Table W R D) (g : Given) → WritesPlain table → KeepsPlain (table_step table g)
  table-keeps_plain table g is s k name h =
      let b = class_of table.class s.previous in
      let w = class_of table.class s.current in
      let k1 = with_local k (table.first k.local) in
      let first = is.first k h in
      let rows = λ (state : StateRows W R D) (e : named table.states name ≡ Some state). (named-in (λ l. StatesWritePlain l b w) (λ x. IsPlain (does (picked (x.rows b w) g s k1).acts s k1))
      (λ x xs h. picked-plain (x.rows b w) g s k1 k1 (StatesWritePlain xs b w) h first) table.states name state (is.rows b w) e).0 in
      step-plain table g (named table.states name) s k1 rows first

  pub writing-lawful : (table : Table W R D) (g : Given) → IsFit table → WritesPlain table → IsLawful g (plain (table_rules table g))
  writing-lawful table g fit plainly =
      machines.plain-lawful g (table_rules table g) (table-keeps_plain table g plainly) (table-consumes_once table g fit) (table-only_adds table g fit) (table-ends_when_read table g fit)
      (table-invariant_kept table g fit) (table-cost_pays table g fit) (λ text k is formed h. formed)

  pub plain-lawful : (table : Table W R D) (g : Given) → IsFit table → IsPlainTable table → IsLawful g (plain (table_rules table g))
  plain-lawful table g fit is = writing-lawful table g fit (record { first = is.first; rows = λ b w. states-plain table.states b w (is.rows b w) })
