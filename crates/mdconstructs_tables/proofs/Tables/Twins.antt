-- A table and its twin read alike: their steps are alike but for `size`, and so is all that follows.
use Rattle.mdconstructs_tables.proofs.Prelude.{◌≡◌, ◌∙◌, ◌==◌, ℕ, zero, suc, List, [], ◌∷◌, Bool, true, false, cond, Option, Some, None, refl, sym, ap, subst, length, nat_lt, Name, State, Next, Retry, Ok, Nok, AttemptKind, Attempt, Check, Byte, End, Given, Text, Configuration, Choice, Local, Saved, Step, with_local, EndsIn, Reading, after_choices, fed, more_calls, read, settle, settled_at, Sight, sight, Act, Rows, Row, row, when, links, writes, StateRows, Table, class_of, named, picked, step_of, step_at, table_step}
use Rattle.markdown_tokenizer.specs.Calls.{linked}
use Rattle.mdconstructs_tables.specs.Rows.{choice_made_at, choose, chooses, does, done, seen_after, shown_sight, with_choice_of}
use Rattle.mdconstructs_tables.specs.Twins.{ActsBlind, IsBlind, RowsBlind, StatesBlind, TwinsReadAlike, reading_sized, sized, twin, with_size}

-- ---- steps

-- a step with another `size`
abbrev step_sized : {R D : Type 0} → ℕ → Step R D → Step R D
step_sized n q = record q { configuration = with_size n q.configuration }

module _ {R D : Type 0} (n : ℕ) where
  -- acts do the same but for `size`, and make the same choices
  does-sized : (acts : List (Act R D)) (P : Type 0) → ActsBlind acts P → (s : Sight) (k : Configuration R D) → does acts s (with_size n k) ≡ with_size n (does acts s k)
  does-sized [] P h s k = refl
  does-sized (links previous next ∷ acts) P h s k =
      ap (λ i. does acts s (linked i (next (with_size n k)) (with_size n k))) (h.0 k n)
      ∙ ap (λ i. does acts s (linked (previous k) i (with_size n k))) (h.1.0 k n)
      ∙ does-sized acts P h.1.1 s (done (links previous next) s k)
  does-sized (writes f ∷ acts) P h s k =
      ap (λ l. does acts s (with_local k l)) (h.0 (shown_sight s) k n) ∙ does-sized acts P h.1 s (done (writes f) s k)
  does-sized (act ∷ acts) P h s k = does-sized acts P h (seen_after act s) (done act s k)

  choice-sized : (kind : AttemptKind) (ok nok : State) (k : Configuration R D) → choice_made_at kind ok nok (with_size n k) ≡ choice_made_at kind ok nok k
  choice-sized Check ok nok k = refl
  choice-sized Attempt ok Nok k = refl
  choice-sized Attempt ok nok k = refl

  chooses-sized : (acts : List (Act R D)) (P : Type 0) → ActsBlind acts P → (s : Sight) (k : Configuration R D) (choices : List Choice) → chooses acts s (with_size n k) choices ≡ chooses acts s k choices
  chooses-sized [] P h s k choices = refl
  chooses-sized (links previous next ∷ acts) P h s k choices =
      ap (λ i. chooses acts s (linked i (next (with_size n k)) (with_size n k)) choices) (h.0 k n)
      ∙ ap (λ i. chooses acts s (linked (previous k) i (with_size n k)) choices) (h.1.0 k n)
      ∙ chooses-sized acts P h.1.1 s (done (links previous next) s k) choices
  chooses-sized (writes f ∷ acts) P h s k choices =
      ap (λ l. chooses acts s (with_local k l) choices) (h.0 (shown_sight s) k n) ∙ chooses-sized acts P h.1 s (done (writes f) s k) choices
  chooses-sized (choose kind ok nok ∷ acts) P h s k choices =
      ap (λ c. chooses acts s (with_size n k) (c ∷ choices)) (choice-sized kind ok nok k) ∙ chooses-sized acts P h s k (choice_made_at kind ok nok k ∷ choices)
  chooses-sized (act ∷ acts) P h s k choices = chooses-sized acts P h (seen_after act s) (done act s k) (with_choice_of act k choices)

-- the property behind acts and behind rows
behind-acts : {R D : Type 0} (acts : List (Act R D)) (P : Type 0) → ActsBlind acts P → P
behind-acts [] P h = h
behind-acts (links previous next ∷ acts) P h = behind-acts acts P h.1.1
behind-acts (writes f ∷ acts) P h = behind-acts acts P h.1
behind-acts (act ∷ acts) P h = behind-acts acts P h

behind-rows : {R D : Type 0} (rows : Rows R D) (P : Type 0) → RowsBlind rows P → P
behind-rows (row acts answer) P h = behind-acts acts P h
behind-rows (when test one other) P h = behind-rows other P (behind-rows one (RowsBlind other P) h.1)

module _ {R D : Type 0} (n : ℕ) (g : Given) (s : Sight) (k : Configuration R D) where
  rows-sized : (rows : Rows R D) (P : Type 0) → RowsBlind rows P → step_of (picked rows g s (with_size n k)) s (with_size n k) ≡ step_sized n (step_of (picked rows g s k) s k)
  rows-sized (row acts answer) P h =
      ap (λ c. record { configuration = c; choices = chooses acts s (with_size n k) []; answer = answer }) (does-sized n acts P h s k)
      ∙ ap (λ cs. record { configuration = with_size n (does acts s k); choices = cs; answer = answer }) (chooses-sized n acts P h s k [])
  rows-sized (when test one other) P h =
      let sized_row : Bool → Row R D = λ b. cond b (picked one g s (with_size n k)) (picked other g s (with_size n k)) in
      ap (λ b. step_of (sized_row b) s (with_size n k)) (h.0 g s k n)
      ∙ elim (test g s k) as (λ b. step_of (sized_row b) s (with_size n k) ≡ step_sized n (step_of (cond b (picked one g s k) (picked other g s k)) s k)) [
        | true ↦ rows-sized one (RowsBlind other P) h.1
        | false ↦ rows-sized other P (behind-rows one (RowsBlind other P) h.1)
      ]

module _ {W R D : Type 0} (table : Table W R D) where
  named-sized : (n : ℕ) (g : Given) (s : Sight) (k : Configuration R D) (name : Name) (states : List (StateRows W R D)) → StatesBlind states (class_of table.class s.previous) (class_of table.class s.current)
      → step_at table g (named states name) s (with_size n k) ≡ step_sized n (step_at table g (named states name) s k)
  named-sized n g s k name [] h = refl
  named-sized n g s k name (state ∷ states) h =
      let b = class_of table.class s.previous in
      let w = class_of table.class s.current in
      elim (name.number == state.name.number)
      as (λ t. step_at table g (cond t (Some state) (named states name)) s (with_size n k) ≡ step_sized n (step_at table g (cond t (Some state) (named states name)) s k)) [
        | true ↦ rows-sized n g s k (state.rows b w) (StatesBlind states b w) h
        | false ↦ named-sized n g s k name states (behind-rows (state.rows b w) (StatesBlind states b w) h)
      ]

  module _ (first : Local R D → Local R D) (blind : IsBlind table) (unchanged : (local : Local R D) → table.first local ≡ local) (sizes : (local : Local R D) → (n : ℕ) × (first local ≡ sized n local)) where
    pub step-twin : (g : Given) (s : Sight) (k : Configuration R D) (n : ℕ) (name : Name) → (m : ℕ) × (table_step (twin first table) g s (with_size n k) name ≡ step_sized m (table_step table g s k name))
    step-twin g s k n name =
        let wrote = sizes (sized n k.local) in
        let b = class_of table.class s.previous in
        let w = class_of table.class s.current in (
          wrote.0,
          ap (λ l. step_at (twin first table) g (named table.states name) s (with_local k l)) wrote.1
              ∙ named-sized wrote.0 g s k name table.states (blind b w)
              ∙ ap (λ l. step_sized wrote.0 (step_at table g (named table.states name) s (with_local k l))) (sym (unchanged k.local)),
        )

-- ---- readings

-- what one reading comes to the other comes to, with another `size`
abbrev AreTwins : {R D : Type 0} → Option (Reading R D) → Option (Reading R D) → Type 0
AreTwins None p = Unit {0}
AreTwins (Some r) p = (m : ℕ) × (p ≡ Some (reading_sized m r))

abbrev Reads : {R D : Type 0} → (f h : Configuration R D → State → Option (Reading R D)) → Type 0
Reads {R} {D} f h = (k : Configuration R D) (n : ℕ) (s : State) → AreTwins (f k s) (h (with_size n k) s)

more-twins : {R D : Type 0} (c : ℕ) (o p : Option (Reading R D)) → AreTwins o p → AreTwins (more_calls c o) (more_calls c p)
more-twins c None p t = tt
more-twins c (Some r) p t = (t.0, ap (more_calls c) t.1)

settled-sized : {R D : Type 0} (kind : AttemptKind) (saved : Option Saved) (answer : State) (k : Configuration R D) (n : ℕ) → settled_at kind saved answer (with_size n k) ≡ with_size n (settled_at kind saved answer k)
settled-sized Check None answer k n = refl
settled-sized Check (Some saved) answer k n = refl
settled-sized Attempt None Nok k n = refl
settled-sized Attempt (Some saved) Nok k n = refl
settled-sized Attempt saved answer k n = refl

module _ {R D : Type 0} (f h : Configuration R D → State → Option (Reading R D)) (reads : Reads f h) where
  on-twins : (c : Choice) (k : Configuration R D) (answer to : State) (calls n : ℕ)
      → AreTwins (more_calls calls (f (settled_at c.kind c.saved answer k) to)) (more_calls calls (h (settled_at c.kind c.saved answer (with_size n k)) to))
  on-twins c k answer to calls n =
      let k1 = settled_at c.kind c.saved answer k in
      subst (λ k2. AreTwins (more_calls calls (f k1 to)) (more_calls calls (h k2 to))) (sym (settled-sized c.kind c.saved answer k n)) (more-twins calls (f k1 to) (h (with_size n k1) to) (reads k1 n to))

  settle-twins : (c : Choice) (k : Configuration R D) (s : State) (calls n : ℕ)
      → AreTwins (settle f c (record { configuration = k; answer = s; calls = calls })) (settle h c (record { configuration = with_size n k; answer = s; calls = calls }))
  settle-twins c k Ok calls n = on-twins c k Ok c.ok calls n
  settle-twins c k Nok calls n = on-twins c k Nok c.nok calls n
  settle-twins c k s calls n = (n, refl)

  choices-twins : (cs : List Choice) (o p : Option (Reading R D)) → AreTwins o p → AreTwins (after_choices f cs o) (after_choices h cs p)
  choices-twins [] o p t = t
  choices-twins (c ∷ cs) None p t = tt
  choices-twins (c ∷ cs) (Some r) p t =
      let q = reading_sized t.0 r in
      subst (λ p. AreTwins (after_choices f cs (settle f c r)) (after_choices h (c ∷ cs) p)) (sym t.1)
      (choices-twins cs (settle f c r) (settle h c q) (settle-twins c r.configuration r.answer r.calls t.0))

module _ {R D : Type 0} (g : Given) (text : Text) (step other : Sight → Configuration R D → Name → Step R D)
    (alike : (s : Sight) (k : Configuration R D) (n : ℕ) (name : Name) → (m : ℕ) × (other s (with_size n k) name ≡ step_sized m (step s k name))) where
  call-twins : (b : ℕ) → Reads (read g step text b) (read g other text b) → (k : Configuration R D) (n : ℕ) (name : Name)
      → AreTwins (read g step text (suc b) k (Retry name)) (read g other text (suc b) (with_size n k) (Retry name))
  call-twins b reads k n name =
      let f = read g step text b in
      let h = read g other text b in
      let q = step (sight g text k) k name in
      let a = alike (sight g text k) k n name in
      subst (λ (q' : Step R D). AreTwins (read g step text (suc b) k (Retry name)) (more_calls 1 (after_choices h q'.choices (h q'.configuration q'.answer)))) (sym a.1)
      (more-twins 1 (after_choices f q.choices (f q.configuration q.answer)) (after_choices h q.choices (h (with_size a.0 q.configuration) q.answer))
      (choices-twins f h reads q.choices (f q.configuration q.answer) (h (with_size a.0 q.configuration) q.answer) (reads q.configuration a.0 q.answer)))

  fed-sized : (k : Configuration R D) (n : ℕ) → with_size n (fed text k) ≡ fed text (with_size n k)
  fed-sized k n =
      elim (nat_lt k.position (length text.seats))
      as (λ t. with_size n (cond t (record k { waiting = Byte }) (record k { waiting = End; ended = true })) ≡ cond t (record (with_size n k) { waiting = Byte }) (record (with_size n k) { waiting = End; ended = true })) [
        | true ↦ refl
        | false ↦ refl
      ]

  read-twins : (b : ℕ) → Reads (read g step text b) (read g other text b)
  read-twins zero k n (Next name) = tt
  read-twins zero k n (Retry name) = tt
  read-twins (suc b) k n (Next name) =
      subst (λ k'. AreTwins (read g step text (suc b) k (Next name)) (read g other text (suc b) k' (Retry name))) (fed-sized k n) (call-twins b (read-twins b) (fed text k) n name)
  read-twins (suc b) k n (Retry name) = call-twins b (read-twins b) k n name
  read-twins b k n s = (n, refl)

  pub ends-twin : (calls : ℕ) (k : Configuration R D) (n : ℕ) (choices : List Choice) (s : State) (r : Reading R D) → EndsIn g step text calls k choices s r
      → (m : ℕ) × EndsIn g other text calls (with_size n k) choices s (reading_sized m r)
  ends-twin calls k n choices s r ends =
      let f = read g step text ends.bound in
      let h = read g other text ends.bound in
      let o = after_choices f choices (f k s) in
      let p = after_choices h choices (h (with_size n k) s) in
      let there = subst (λ o'. AreTwins o' (more_calls calls p)) ends.is (more-twins calls o p (choices-twins f h (read-twins ends.bound) choices (f k s) (h (with_size n k) s) (read-twins ends.bound k n s))) in
      (there.0, record { bound = ends.bound; is = there.1 })

-- So a table and its twin read alike
pub twins-read-alike : {W R D : Type 0} → TwinsReadAlike W R D
twins-read-alike table first blind unchanged sizes g text calls k n choices state r ends =
    ends-twin g text (table_step table g) (table_step (twin first table) g) (step-twin table first blind unchanged sizes g) calls k n choices state r ends
