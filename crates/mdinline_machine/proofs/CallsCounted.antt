-- Each call of a machine is counted. So where a reading ends, as many calls are counted as were made, or as many as can be counted.
use Rattle.mdinline_machine.proofs.Prelude.{◌≡◌, ◌==◌, ℕ, zero, suc, ◌+◌, ◌≤◌, List, [], ◌∷◌, ◌++◌, true, false, cond, Option, Some, None, refl, sym, ◌∙◌, subst, arith, length, min, nat_lt, Name, State, Next, Retry, Ok, Nok, AttemptKind, Attempt, Check, Byte, End, with_local, Configuration, Choice, Local, Saved, Step, EndsIn, Reading, after_choices, fed, more_calls, read, settle, settled_at, Sight, sight, Given, Text, counts, RowsHarmless, WriteHarmless, Act, Rows, StateRows, Table, choose, class_of, consume, does, enters, exit, exit_noted, enter_noted, note, links, past, picked, row, shown_sight, step_at, step_of, table_step, when, writes, behind-acts, behind-rows, most, spent}
use Rattle.mdconstructs_tables.specs.Rows.{done, named}

-- each call of these steps counts one
abbrev pub CountsCalls : (Sight → Configuration Unit Unit → Name → Step Unit Unit) → Type 0
CountsCalls step = (s : Sight) (k : Configuration Unit Unit) (name : Name) → spent (step s k name).configuration.local ≡ spent (counts k.local)

-- so many calls were counted where a reading ended, or as many as can be
abbrev pub AreCounted : ℕ → Reading Unit Unit → Type 0
AreCounted n r = min (n + r.calls) most ≤ spent r.configuration.local

module _ (g : Given) (step : Sight → Configuration Unit Unit → Name → Step Unit Unit) (text : Text) (counted : CountsCalls step) where
  -- what such a function reads is counted
  abbrev Counts : (Configuration Unit Unit → State → Option (Reading Unit Unit)) → Type 0
  Counts f = (k : Configuration Unit Unit) (s : State) (r : Reading Unit Unit) → f k s ≡ Some r → AreCounted (spent k.local) r

  -- a choice that ends counts nothing
  settled-counts : (kind : AttemptKind) (saved : Option Saved) (answer : State) (k : Configuration Unit Unit) → spent (settled_at kind saved answer k).local ≡ spent k.local
  settled-counts Check None answer k = refl
  settled-counts Check (Some saved) answer k = refl
  settled-counts Attempt None Nok k = refl
  settled-counts Attempt (Some saved) Nok k = refl
  settled-counts Attempt saved answer k = refl

  of-some : (n : ℕ) (q r : Reading Unit Unit) → AreCounted n q → Some q ≡ Some r → AreCounted n r
  of-some n q r h e = let same : q ≡ r = cc in subst (AreCounted n) same h

  of-more : (n m : ℕ) (o : Option (Reading Unit Unit)) (r : Reading Unit Unit) → ((q : Reading Unit Unit) → o ≡ Some q → AreCounted (n + m) q) → more_calls m o ≡ Some r → AreCounted n r
  of-more n m None r h e = absurd (cc)
  of-more n m (Some q) r h e = let there = h q refl in of-some n (record { configuration = q.configuration; answer = q.answer; calls = m + q.calls }) r (omega (arith, there)) e

  -- a choice that ends, and what it goes on with
  goes-on : (f : Configuration Unit Unit → State → Option (Reading Unit Unit)) → Counts f → (c : Choice) (k : Configuration Unit Unit) (answer to : State) (m n : ℕ) (r : Reading Unit Unit) → min (n + m) most ≤ spent k.local
      → more_calls m (f (settled_at c.kind c.saved answer k) to) ≡ Some r → AreCounted n r
  goes-on f counts-f c k answer to m n r h e =
      let same = settled-counts c.kind c.saved answer k in
      of-more n m (f (settled_at c.kind c.saved answer k) to) r (λ q i. (let there = counts-f (settled_at c.kind c.saved answer k) to q i in omega (arith, there, same, h))) e

  of-settled : (f : Configuration Unit Unit → State → Option (Reading Unit Unit)) → Counts f → (c : Choice) (k : Configuration Unit Unit) (s : State) (m n : ℕ) (r : Reading Unit Unit) → min (n + m) most ≤ spent k.local
      → settle f c (record { configuration = k; answer = s; calls = m }) ≡ Some r → AreCounted n r
  of-settled f counts-f c k Ok m n r h e = goes-on f counts-f c k Ok c.ok m n r h e
  of-settled f counts-f c k Nok m n r h e = goes-on f counts-f c k Nok c.nok m n r h e
  of-settled f counts-f c k s m n r h e = of-some n (record { configuration = k; answer = s; calls = m }) r h e

  of-choices : (f : Configuration Unit Unit → State → Option (Reading Unit Unit)) → Counts f → (cs : List Choice) (n : ℕ) (o : Option (Reading Unit Unit)) (r : Reading Unit Unit)
      → ((q : Reading Unit Unit) → o ≡ Some q → AreCounted n q) → after_choices f cs o ≡ Some r → AreCounted n r
  of-choices f counts-f [] n o r h e = h r e
  of-choices f counts-f (c ∷ cs) n None r h e = absurd (cc)
  of-choices f counts-f (c ∷ cs) n (Some q) r h e =
      of-choices f counts-f cs n (settle f c q) r (λ p i. of-settled f counts-f c q.configuration q.answer q.calls n p (h q refl) i) e

  of-call : (b : ℕ) → Counts (read g step text b) → (k : Configuration Unit Unit) (name : Name) (n : ℕ) (r : Reading Unit Unit) → n ≡ spent k.local → read g step text (suc b) k (Retry name) ≡ Some r → AreCounted n r
  of-call b counts-f k name n r is e =
      let s = step (sight g text k) k name in
      let f = read g step text b in
      let one = counted (sight g text k) k name in
      of-more n 1 (after_choices f s.choices (f s.configuration s.answer)) r
      (λ q i. of-choices f counts-f s.choices (n + 1) (f s.configuration s.answer) q (λ p j. (let there = counts-f s.configuration s.answer p j in omega (arith, there, one, is))) i) e

  fed-counts : (k : Configuration Unit Unit) → spent (fed text k).local ≡ spent k.local
  fed-counts k = elim (nat_lt k.position (length text.seats)) as (λ t. spent (cond t (record k { waiting = Byte }) (record k { waiting = End; ended = true })).local ≡ spent k.local) [ true ↦ refl | false ↦ refl ]

  reads : (b : ℕ) → Counts (read g step text b)
  reads zero k (Next name) r e = absurd (cc)
  reads zero k (Retry name) r e = absurd (cc)
  reads (suc b) k (Next name) r e = of-call b (reads b) (fed text k) name (spent k.local) r (sym (fed-counts k)) e
  reads (suc b) k (Retry name) r e = of-call b (reads b) k name (spent k.local) r refl e
  reads b k s r e = of-some (spent k.local) (record { configuration = k; answer = s; calls = 0 }) r (omega arith) e

  -- So as many calls were counted as a reading made, or as many as can be
  pub calls-counted : (k : Configuration Unit Unit) (s : State) (r : Reading Unit Unit) → EndsIn g step text 0 k [] s r → AreCounted (spent k.local) r
  calls-counted k s r ends = of-more (spent k.local) 0 (read g step text ends.bound k s) r (λ q e. (let there = reads ends.bound k s q e in omega (arith, there))) ends.is

-- ---- tables

-- a write leaves the count of calls
abbrev pub KeepsCount : (Sight → Configuration Unit Unit → Local Unit Unit) → Type 0
KeepsCount f = (s : Sight) (k : Configuration Unit Unit) → (f s k).tokenize_state.size ≡ k.local.tokenize_state.size

-- no write of these states changes it
abbrev pub KeepCount : {W : Type 0} → List (StateRows W Unit Unit) → (previous current : Option W) → Type 0
KeepCount [] b w = Unit {0}
KeepCount (state ∷ states) b w = RowsHarmless KeepsCount (state.rows b w) (KeepCount states b w)

-- two lists of states leave it if each does
acts-more : (acts : List (Act Unit Unit)) (P Q : Type 0) → (P → Q) → WriteHarmless KeepsCount acts P → WriteHarmless KeepsCount acts Q
acts-more [] P Q f h = f h
acts-more (writes w ∷ acts) P Q f h = (h.0, acts-more acts P Q f h.1)
acts-more (links previous next ∷ acts) P Q f h = acts-more acts P Q f h
acts-more (enters name link ∷ acts) P Q f h = acts-more acts P Q f h
acts-more (exit name ∷ acts) P Q f h = acts-more acts P Q f h
acts-more (consume ∷ acts) P Q f h = acts-more acts P Q f h
acts-more (choose kind ok nok ∷ acts) P Q f h = acts-more acts P Q f h
acts-more (note ∷ acts) P Q f h = acts-more acts P Q f h
acts-more (exit_noted name ∷ acts) P Q f h = acts-more acts P Q f h
acts-more (enter_noted name ∷ acts) P Q f h = acts-more acts P Q f h

rows-more : (rows : Rows Unit Unit) (P Q : Type 0) → (P → Q) → RowsHarmless KeepsCount rows P → RowsHarmless KeepsCount rows Q
rows-more (row acts answer) P Q f h = acts-more acts P Q f h
rows-more (when test one other) P Q f h = rows-more one (RowsHarmless KeepsCount other P) (RowsHarmless KeepsCount other Q) (rows-more other P Q f) h

pub both-keep-count : {W : Type 0} (xs ys : List (StateRows W Unit Unit)) (b w : Option W) → KeepCount xs b w → KeepCount ys b w → KeepCount (xs ++ ys) b w
both-keep-count [] ys b w h k = k
both-keep-count (x ∷ xs) ys b w h k = rows-more (x.rows b w) (KeepCount xs b w) (KeepCount (xs ++ ys) b w) (λ h. both-keep-count xs ys b w h k) h

acts-count : (acts : List (Act Unit Unit)) → WriteHarmless KeepsCount acts (Unit {0}) → (s : Sight) (k : Configuration Unit Unit) → spent (does acts s k).local ≡ spent k.local
acts-count [] h s k = refl
acts-count (enters name link ∷ acts) h s k = acts-count acts h s (done (enters name link) s k)
acts-count (exit name ∷ acts) h s k = acts-count acts h s (done (exit name) s k)
acts-count (consume ∷ acts) h s k = acts-count acts h (past s) (done consume s k)
acts-count (links previous next ∷ acts) h s k = acts-count acts h s (done (links previous next) s k)
acts-count (writes f ∷ acts) h s k = acts-count acts h.1 s (with_local k (f (shown_sight s) k)) ∙ h.0 (shown_sight s) k
acts-count (choose kind ok nok ∷ acts) h s k = acts-count acts h s k
acts-count (note ∷ acts) h s k = acts-count acts h s (done note s k)
acts-count (exit_noted name ∷ acts) h s k = acts-count acts h s (done (exit_noted name) s k)
acts-count (enter_noted name ∷ acts) h s k = acts-count acts h s (done (enter_noted name) s k)

rows-count : (rows : Rows Unit Unit) (P : Type 0) → RowsHarmless KeepsCount rows P → (g : Given) (s : Sight) (at k : Configuration Unit Unit) → spent (step_of (picked rows g s at) s k).configuration.local ≡ spent k.local
rows-count (row acts answer) P h g s at k = acts-count acts (behind-acts KeepsCount acts P h).0 s k
rows-count (when test one other) P h g s at k =
    elim (test g s at) as (λ t. spent (step_of (cond t (picked one g s at) (picked other g s at)) s k).configuration.local ≡ spent k.local) [
      | true ↦ rows-count one (RowsHarmless KeepsCount other P) h g s at k
      | false ↦ rows-count other P (behind-rows KeepsCount one (RowsHarmless KeepsCount other P) h) g s at k
    ]

module _ {W : Type 0} (table : Table W Unit Unit) where
  states-count : (g : Given) (s : Sight) (k : Configuration Unit Unit) (name : Name) (states : List (StateRows W Unit Unit)) → KeepCount states (class_of table.class s.previous) (class_of table.class s.current)
      → spent (step_at table g (named states name) s k).configuration.local ≡ spent k.local
  states-count g s k name [] h = refl
  states-count g s k name (state ∷ states) h =
      let b = class_of table.class s.previous in
      let w = class_of table.class s.current in
      elim (name.number == state.name.number) as (λ t. spent (step_at table g (cond t (Some state) (named states name)) s k).configuration.local ≡ spent k.local) [
        | true ↦ rows-count (state.rows b w) (KeepCount states b w) h g s k k
        | false ↦ states-count g s k name states (behind-rows KeepsCount (state.rows b w) (KeepCount states b w) h)
      ]

  -- a table that counts each call first, and whose writes leave the count, counts its calls
  pub table-counts : (g : Given) → ((local : Local Unit Unit) → spent (table.first local) ≡ spent (counts local)) → ((previous current : Option W) → KeepCount table.states previous current)
      → CountsCalls (table_step table g)
  table-counts g first kept s k name =
      states-count g s (with_local k (table.first k.local)) name table.states (kept (class_of table.class s.previous) (class_of table.class s.current)) ∙ first k.local
