-- The laws of a plan, from the tests of its table and from what keeps what its machine knows.
use Rattle.mdconstructs_tables.proofs.Prelude.{List, [], ◌∷◌, ◌++◌, true, refl, sym, subst, nat_lt, ltb-true, ltb-false, length, All-contains, State, Next, Retry, Byte, End, Given, Text, empty_text, Configuration, Choice, start_configuration, Step, Sight, sight, with_local, IsLawful, ConsumesOnce, OnlyAdds, EndsWhenRead, KeepsInvariant, CostPays, ResolversKeep, Rules, Rows, row, when, Row, class_of, picked, step_of, step_at, IsFitBy, EachRow, AllFallLater, Plan, HoldsPlanned, planned_rules, KnownBehind, KeepsKnown, AllKeepKnown, KeepsKnowledge, IsSound, cond_both}
use Rattle.mdconstructs_tables.proofs.Rows.Misfits.{named-in}
use Rattle.mdconstructs_tables.proofs.Rows.Laws.{chooses-append}
use Rattle.mdconstructs_tables.proofs.Tables.Holding.{row_of}
use Rattle.mdconstructs_tables.proofs.Tables.Laws.{is-call, table-consumes_once, table-only_adds, table-ends_when_read, table-invariant_kept}
use Rattle.mdconstructs_tables.proofs.Tables.Prices.{AreLate, all-late, passes, chosen-fall, calls-pay, fed-pays, ok-pays, nok-pays}

-- what holds of each of the rows, by the tests that pick it, holds of the one that is picked
module _ {R D : Type 0} (P : Row R D → Type 0) (g : Given) (s : Sight) (k : Configuration R D) where
  pub picked-row : (rows : Rows R D) → EachRow P g s k rows → P (picked rows g s k)
  picked-row (row acts answer) h = h
  picked-row (when test one other) h =
      cond_both (test g s k) (picked one g s k) (picked other g s k) P (λ e. picked-row one (h.0 e)) (λ e. picked-row other (h.1 e))

-- The invariant may be said in another form: `H` is as strong as that of the plan
module _ {W R D : Type 0} (plan : Plan W R D) (g : Given) (fit : IsFitBy plan.table plan.early plan.falling) (late : AreLate plan.table g plan.early fit)
    (H : Text → Configuration R D → List Choice → State → Type 0)
    (out : (text : Text) (k : Configuration R D) (choices : List Choice) (state : State) → H text k choices state → HoldsPlanned plan g text k choices state)
    (into : (text : Text) (k : Configuration R D) (choices : List Choice) (state : State) → HoldsPlanned plan g text k choices state → H text k choices state) where
  abbrev formed_rules : Rules R D
  formed_rules = record (planned_rules plan g) { holds = H }

  -- the laws of calls
  pub planned-calls : KeepsKnowledge plan → ConsumesOnce g formed_rules × OnlyAdds g formed_rules × EndsWhenRead g formed_rules × KeepsInvariant g formed_rules × CostPays g formed_rules
  planned-calls known =
      let table = plan.table in
      let adds = table-only_adds table g fit in
      let ends = table-ends_when_read table g fit in
      let kept = table-invariant_kept table g fit in (
        λ text k choices name is h. table-consumes_once table g fit text k choices name is (out text k choices (Retry name) h).holds,
        record {
          events = λ text k choices name is h. adds.events text k choices name is (out text k choices (Retry name) h).holds;
          stack = λ text k choices name is h. adds.stack text k choices name is (out text k choices (Retry name) h).holds;
          choices = λ text k choices name is h. adds.choices text k choices name is (out text k choices (Retry name) h).holds;
        },
        record { nok = λ text k is h. ends.nok text k is (out text k [] _ h).holds; ok = λ text k is h. ends.ok text k is (out text k [] _ h).holds },
        record {
          at_starts = λ p flag name is start.
              let k : Configuration R D = start_configuration flag in
              into (empty_text p) k [] (Next name)
              (record { holds = kept.at_starts p flag name is start; falls = tt; known = All-contains (λ name. plan.knows g (empty_text p) k [] (Next name)) table.starts name (known.at_starts g p flag is) start });
          unfed = λ text k choices name is h. kept.unfed text k choices name is (out text k choices (Next name) h).holds;
          waits = λ text k choices name is h. kept.waits text k choices name is (out text k choices (Retry name) h).holds;
          by_feeding = λ text k choices name is h.
              let there = out text k choices (Next name) h in
              into text _ choices (Retry name) (record {
                holds = kept.by_feeding text k choices name is there.holds;
                falls = there.falls;
                known = cond_both (nat_lt k.position (length text.seats)) (record k { waiting = Byte }) (record k { waiting = End; ended = true }) (λ k'. plan.knows g text k' choices (Retry name))
                    (λ e. known.by_byte g text k choices name is (ltb-true k.position (length text.seats) e) there) (λ e. known.by_end g text k choices name is (ltb-false k.position (length text.seats) e) there);
              });
          by_calls = λ text k choices name is h.
              let there = out text k choices (Retry name) h in
              let c = is-call table g fit text k choices name is there.holds in
              let s = sight g text k in
              let k1 = with_local k (table.first k.local) in
              let r = row_of table g text k c.state in
              let b = class_of table.class s.previous in
              let w = class_of table.class s.current in
              let (one, same) = named-in (AllKeepKnown plan) (KeepsKnown plan) (λ x xs h. h) table.states name c.state known.by_rows c.is in
              let here = subst (λ n. HoldsPlanned plan g text k choices (Retry (record { number = n }))) same there in
              let fall = (passes table g plan.early fit late text k choices name c).0 in
              let P : Step R D → Type 0 = λ q. AllFallLater plan.falling (q.choices ++ choices) in
              into text _ _ _ (record {
                holds = kept.by_calls text k choices name is there.holds;
                falls = subst (λ o. P (step_at table g o s k1)) (sym c.is)
                    (subst (AllFallLater plan.falling) (sym (chooses-append r.acts s k1 [] choices)) (chosen-fall table g plan.early fit r.acts s k1 choices fall there.falls));
                known = subst (λ o. KnownBehind plan g text choices (step_at table g o s k1)) (sym c.is)
                    (picked-row (λ r. KnownBehind plan g text choices (step_of r s k1)) g s k1 (c.state.rows b w) (one g text k choices b w is refl refl here));
              });
          by_ok = λ text k choice choices is h.
              let there = out text k (choice ∷ choices) _ h in
              into text _ choices choice.ok (record { holds = kept.by_ok text k choice choices is there.holds; falls = there.falls.1; known = known.by_ok g text k choice choices is there });
          by_nok = λ text k choice choices is h.
              let there = out text k (choice ∷ choices) _ h in
              into text _ choices choice.nok (record { holds = kept.by_nok text k choice choices is there.holds; falls = there.falls.1; known = known.by_nok g text k choice choices is there });
          by_pieces = λ text piece k choices state is fits fresh h.
              let there = out text k choices state h in
              into _ k choices state (record { holds = kept.by_pieces text piece k choices state is fits fresh there.holds; falls = there.falls; known = known.by_pieces g text piece k choices state is fits fresh there });
        },
        record {
          for_calls = λ text k choices name is h. let there = out text k choices (Retry name) h in calls-pay table g plan.early fit late text k choices name is there.holds there.falls;
          for_feeding = λ text k choices name is h. let there = out text k choices (Next name) h in fed-pays table g plan.early fit late text k choices name there.holds there.falls;
          for_ok = λ text k choice choices is h. ok-pays table g plan.early fit text k choice choices (out text k (choice ∷ choices) _ h).holds;
          for_nok = λ text k choice choices is h. nok-pays table g plan.early fit text k choice choices (out text k (choice ∷ choices) _ h).holds;
        },
      )

  -- all laws, from those of its resolvers
  pub formed-lawful : KeepsKnowledge plan → ResolversKeep g formed_rules → IsLawful g formed_rules
  formed-lawful known resolved =
      let (once, adds, ends, kept, pays) = planned-calls known in
      record { consumes_once = once; only_adds = adds; ends_when_read = ends; invariant_kept = kept; cost_pays = pays; resolvers_keep = resolved }

pub planned-lawful : {W R D : Type 0} (plan : Plan W R D) (g : Given) → IsSound plan → IsLawful g (planned_rules plan g)
planned-lawful plan g sound =
    formed-lawful plan g sound.late.fit (all-late plan.table plan.early plan.falling g sound.late) (HoldsPlanned plan g) (λ text k choices state h. h) (λ text k choices state h. h) sound.kept (sound.resolved g)
