-- The laws of two machines in one, from the laws of each.
use Rattle.mdconstructs_tables.proofs.Prelude.{SavesEvents, ◌≡◌, ◌≢◌, ◌⊎◌, ◌+◌, ◌≤◌, inl, inr, List, [], ◌∷◌, ◌++◌, Bool, true, false, cond, Option, Some, None, refl, sym, ap, ◌∙◌, subst, arith, ◌==◌, nat_tests, Contains-append_cases, false_from_ne_true, Point, Name, State, Next, Retry, Ok, Nok, Given, Text, IsText, Configuration, Choice, Step, sight, Rules, ForEachCall, IsLawful, IsAsFar, consumed, Byte, StateRows, Table, named, is_some, IsStateAt, table_holds, AreApart, has_state, joined_rules, settled_at, cond_both, map, length, All, IfSome, take, unlinked}

module _ {R D : Type 0} (is_first : Name → Bool) (g : Given) (first second : Rules R D) (apart : AreApart is_first first second) where
  abbrev both : Rules R D
  both = joined_rules is_first first second

  -- what holds where a state is called, by the machine of its name
  pub of-first : (text : Text) (k : Configuration R D) (choices : List Choice) (name : Name) → is_first name ≡ true → both.holds text k choices (Retry name) → first.holds text k choices (Retry name)
  of-first text k choices name e (inl h) = h
  of-first text k choices name e (inr h) = let other = apart.second_called text k choices name h in absurd (cc)

  pub of-second : (text : Text) (k : Configuration R D) (choices : List Choice) (name : Name) → is_first name ≡ false → both.holds text k choices (Retry name) → second.holds text k choices (Retry name)
  of-second text k choices name e (inl h) = let other = apart.first_called text k choices name h in absurd (cc)
  of-second text k choices name e (inr h) = h

  -- a law about each call of either machine is a law about both
  each-call : (P : Text → Configuration R D → List Choice → Name → Step R D → Type 0)
      → ((text : Text) (k : Configuration R D) (choices : List Choice) (name : Name) → IsText g text → first.holds text k choices (Retry name) → P text k choices name (first.step (sight g text k) k name))
      → ((text : Text) (k : Configuration R D) (choices : List Choice) (name : Name) → IsText g text → second.holds text k choices (Retry name) → P text k choices name (second.step (sight g text k) k name))
      → ForEachCall g both P
  each-call P one other text k choices name is (inl h) =
      subst (λ b. P text k choices name (cond b (first.step (sight g text k) k name) (second.step (sight g text k) k name))) (sym (apart.first_called text k choices name h)) (one text k choices name is h)
  each-call P one other text k choices name is (inr h) =
      subst (λ b. P text k choices name (cond b (first.step (sight g text k) k name) (second.step (sight g text k) k name))) (sym (apart.second_called text k choices name h)) (other text k choices name is h)

  -- what goes on costs no more than in its own machine
  first-costs : (text : Text) (k : Configuration R D) (choices : List Choice) (state : State) → first.holds text k choices state → both.cost text k choices state ≤ first.cost text k choices state
  first-costs text k choices (Next name) h = let e = apart.first_fed text k choices name h in rw e (omega arith)
  first-costs text k choices (Retry name) h = let e = apart.first_called text k choices name h in rw e (omega arith)
  first-costs text k [] state h = omega arith
  first-costs text k (c ∷ choices) state h = let none = apart.no_choice text k (c ∷ choices) state h in absurd (cc)

  second-costs : (text : Text) (k : Configuration R D) (choices : List Choice) (state : State) → second.holds text k choices state → both.cost text k choices state ≤ second.cost text k choices state
  second-costs text k choices (Next name) h = let e = apart.second_fed text k choices name h in rw e (omega arith)
  second-costs text k choices (Retry name) h = let e = apart.second_called text k choices name h in rw e (omega arith)
  second-costs text k [] state h = omega arith
  second-costs text k (c ∷ choices) state h = omega arith

  pub joined-lawful : IsLawful g first → IsLawful g second → IsLawful g both
  joined-lawful one other = record {
    consumes_once = each-call
        (λ text k choices name s. (IsAsFar s.configuration k × ((n : Name) → s.answer ≢ Next n)) ⊎ ((k.waiting ≡ Byte) × IsAsFar s.configuration (consumed k) × ((n : Name) → s.answer ≢ Retry n)))
        one.consumes_once other.consumes_once;
    only_adds = record {
      events = each-call (λ text k choices name s. map unlinked (take (length k.events) s.configuration.events) ≡ map unlinked k.events) one.only_adds.events other.only_adds.events;
      stack = each-call (λ text k choices name s. All (λ c. IfSome c.saved (λ v. take (length v.stack) s.configuration.stack ≡ take (length v.stack) k.stack)) choices)
          one.only_adds.stack other.only_adds.stack;
      choices = each-call (λ text k choices name s. All (SavesEvents (length k.events)) s.choices) one.only_adds.choices other.only_adds.choices;
    };
    ends_when_read = record {
      nok = λ text k is h. elim h [ inl h ↦ one.ends_when_read.nok text k is h | inr h ↦ other.ends_when_read.nok text k is h ];
      ok = λ text k is h. elim h [ inl h ↦ one.ends_when_read.ok text k is h | inr h ↦ other.ends_when_read.ok text k is h ];
    };
    invariant_kept =
        let kept = one.invariant_kept in
        let keeps = other.invariant_kept in record {
          at_starts = λ p flag name is start. elim (Contains-append_cases first.starts second.starts name start) [
            | inl start ↦ inl (kept.at_starts p flag name is start)
            | inr start ↦ inr (keeps.at_starts p flag name is start)
          ];
          unfed = λ text k choices name is h. elim h [ inl h ↦ kept.unfed text k choices name is h | inr h ↦ keeps.unfed text k choices name is h ];
          waits = λ text k choices name is h. elim h [ inl h ↦ kept.waits text k choices name is h | inr h ↦ keeps.waits text k choices name is h ];
          by_feeding = λ text k choices name is h. elim h [ inl h ↦ inl (kept.by_feeding text k choices name is h) | inr h ↦ inr (keeps.by_feeding text k choices name is h) ];
          by_calls = each-call (λ text k choices name s. both.holds text s.configuration (s.choices ++ choices) s.answer)
              (λ text k choices name is h. inl (kept.by_calls text k choices name is h)) (λ text k choices name is h. inr (keeps.by_calls text k choices name is h));
          by_ok = λ text k choice choices is h. elim h [ inl h ↦ inl (kept.by_ok text k choice choices is h) | inr h ↦ inr (keeps.by_ok text k choice choices is h) ];
          by_nok = λ text k choice choices is h. elim h [ inl h ↦ inl (kept.by_nok text k choice choices is h) | inr h ↦ inr (keeps.by_nok text k choice choices is h) ];
          by_pieces = λ text piece k choices state is fits fresh h. elim h [
            | inl h ↦ inl (kept.by_pieces text piece k choices state is fits fresh h)
            | inr h ↦ inr (keeps.by_pieces text piece k choices state is fits fresh h)
          ];
        };
    cost_pays = record {
      for_calls = each-call (λ text k choices name s. 1 + both.cost text s.configuration (s.choices ++ choices) s.answer ≤ both.cost text k choices (Retry name))
          (λ text k choices name is h.
          let s = first.step (sight g text k) k name in
          let after = one.invariant_kept.by_calls text k choices name is h in
          let e = apart.first_called text k choices name h in
          rw e (omega (arith, one.cost_pays.for_calls text k choices name is h, first-costs text s.configuration (s.choices ++ choices) s.answer after)))
          (λ text k choices name is h.
          let s = second.step (sight g text k) k name in
          let after = other.invariant_kept.by_calls text k choices name is h in
          let e = apart.second_called text k choices name h in
          rw e (omega (arith, other.cost_pays.for_calls text k choices name is h, second-costs text s.configuration (s.choices ++ choices) s.answer after)));
      for_feeding = λ text k choices name is h. elim h [
        | inl h ↦ let e = apart.first_fed text k choices name h in rw e (one.cost_pays.for_feeding text k choices name is h)
        | inr h ↦ let e = apart.second_fed text k choices name h in rw e (other.cost_pays.for_feeding text k choices name is h)
      ];
      for_ok = λ text k choice choices is h. elim h [
        | inl h ↦ let none = apart.no_choice text k (choice ∷ choices) Ok h in absurd (cc)
        | inr h ↦ omega (arith, other.cost_pays.for_ok text k choice choices is h, second-costs text (settled_at choice.kind choice.saved Ok k) choices choice.ok (other.invariant_kept.by_ok text k choice choices is h))
      ];
      for_nok = λ text k choice choices is h. elim h [
        | inl h ↦ let none = apart.no_choice text k (choice ∷ choices) Nok h in absurd (cc)
        | inr h ↦ omega (arith, other.cost_pays.for_nok text k choice choices is h, second-costs text (settled_at choice.kind choice.saved Nok k) choices choice.nok (other.invariant_kept.by_nok text k choice choices is h))
      ];
    };
    resolvers_keep = record {
      at_end = λ text k is formed h. elim h [ inl h ↦ inl (one.resolvers_keep.at_end text k is formed h) | inr h ↦ inr (other.resolvers_keep.at_end text k is formed h) ];
      by_resolvers = λ text r rs k new more is h e. elim h [
        | inl h ↦ let kept = one.resolvers_keep.by_resolvers text r rs k new more is h e in (inl kept.0, kept.1, kept.2)
        | inr h ↦ let kept = other.resolvers_keep.by_resolvers text r rs k new more is h (ap (λ f. f (sight g text k) k r) apart.one_resolver ∙ e) in (inr kept.0, kept.1, kept.2)
      ];
      at_last = λ text k is h. elim h [
        | inl h ↦ let last = one.resolvers_keep.at_last text k is h in (last.0, last.1, inl last.2)
        | inr h ↦ let last = other.resolvers_keep.at_last text k is h in (last.0, last.1, inr last.2)
      ];
    };
  }

-- No state of the first list has a name of the second's
abbrev pub HaveOtherNames : {V W R D : Type 0} → List (StateRows V R D) → List (StateRows W R D) → Type 0
HaveOtherNames [] others = Unit {0}
HaveOtherNames (state ∷ states) others = (named others state.name ≡ None) × HaveOtherNames states others

module _ {V W R D : Type 0} where
  pub other-name : (states : List (StateRows V R D)) (others : List (StateRows W R D)) (name : Name) → HaveOtherNames states others → has_state states name ≡ true → named others name ≡ None
  other-name [] others name apart h = absurd (cc)
  other-name (state ∷ states) others name apart h =
      cond_both (name.number == state.name.number) (Some state) (named states name) (λ o. is_some o ≡ true → named others name ≡ None)
      (λ e h. let same : name.number ≡ state.name.number = grind (arith, nat_tests) in ap (λ n. named others (record { number = n })) same ∙ apart.0) (λ e. other-name states others name apart.1) h

module _ {W R D : Type 0} (table : Table W R D) (g : Given) (text : Text) (k : Configuration R D) (choices : List Choice) where
  -- if a table's invariant holds, the name is one of its states'
  at-state : (o : Option (StateRows W R D)) (where_to : StateRows W R D → Bool → Point → Bool) → IsStateAt table g text o where_to k choices → is_some o ≡ true
  at-state None where_to h = absurd h
  at-state (Some state) where_to h = refl

  pub fed-state : (name : Name) → table_holds table g text k choices (Next name) → has_state table.states name ≡ true
  fed-state name h = at-state (named table.states name) _ h.1.1

  pub called-state : (name : Name) → table_holds table g text k choices (Retry name) → has_state table.states name ≡ true
  called-state name h = at-state (named table.states name) _ h.1.2

-- a name of the second list is none of the first's
pub is-other : {V W R D : Type 0} (states : List (StateRows V R D)) (others : List (StateRows W R D)) (name : Name) → HaveOtherNames states others → has_state others name ≡ true → has_state states name ≡ false
is-other states others name apart h =
    false_from_ne_true (has_state states name) (λ e. let none = other-name states others name apart e in let off : true ≡ false = sym h ∙ ap is_some none in cc)
