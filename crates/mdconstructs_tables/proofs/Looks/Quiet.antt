-- Quiet looks end.
use Rattle.std.proofs.Common.{◌≡◌, ℕ, zero, suc, ◌+◌, ◌<◌, ◌≤◌, ◌==◌, ◌||◌, ◌⊎◌, inl, inr, not, nat_lt, List, [], ◌∷◌, Bool, true, false, cond, Option, Some, None, refl, sym, ap, ◌∙◌, arith}
use Rattle.std.proofs.Math.Nat.{mul-suc}
use Rattle.std.proofs.lemmas.Bool.{eqb-true, and_parts, ltb-true}
use Rattle.std.specs.Prelude.{filter}
use Rattle.markdown_base.specs.declared.event.Event.{Event}
use Rattle.markdown_base.specs.declared.event.Name.{Name as EventName}
use Rattle.markdown_base.specs.declared.state.Name.{Name}
use Rattle.markdown_base.specs.declared.state.State.{State}
use Rattle.markdown_base.specs.declared.state.State.TheVariants.{Next, Retry, Ok, Nok, Error}
use Rattle.markdown_base.specs.Virtual.{Seat}
use Rattle.markdown_tokenizer.specs.Text.{Given, Text}
use Rattle.markdown_tokenizer.specs.Configuration.{Configuration, Local}
use Rattle.markdown_tokenizer.specs.Sight.{Sight, sight}
use Rattle.mdconstructs_tables.specs.Rows.{Act, enters, exit, consume, links, writes, choose, note, exit_noted, enter_noted, Rows, row, when, Row, Table, class_of, past, shown_sight, picked, named}
use Rattle.mdconstructs_tables.specs.RowTest.{all_rows, is_some}
use Rattle.mdconstructs_tables.specs.Looks.{first_byte, Look, Glance, goes_on, is_over, one_more, answered, uncalled, shows, shows_in, acted, row_here, called, glance, looked_on, unfed_look, scan}
use Rattle.mdconstructs_tables.specs.Quiet.{quiet_acts, quiet_answer, is_one_of, is_quiet_row, is_quiet_state, loud, LookEnds, QuietLooksEnd}

-- the row that is picked passes a test that all pass
passes-picked : {R D : Type 0} (test : Row R D → Bool) (rows : Rows R D) (g : Given) (s : Sight) (k : Configuration R D) → all_rows test rows ≡ true → test (picked rows g s k) ≡ true
passes-picked test (row acts answer) g s k h = h
passes-picked test (when by one other) g s k h = elim (by g s k) as (λ t. test (cond t (picked one g s k) (picked other g s k)) ≡ true) [
  | true ↦ passes-picked test one g s k (and_parts (all_rows test one) (all_rows test other) h).0
  | false ↦ passes-picked test other g s k (and_parts (all_rows test one) (all_rows test other) h).1
]

-- a name of the look is quiet
quiet-one : (test : Name → Bool) (names : List Name) (name : Name) → filter (λ n. not (test n)) names ≡ [] → is_one_of names name ≡ true → test name ≡ true
quiet-one test [] name h e = absurd (cc)
quiet-one test (n ∷ names) name h e =
    elim (test n) as (λ t. test n ≡ t → cond (not t) (n ∷ filter (λ n. not (test n)) names) (filter (λ n. not (test n)) names) ≡ [] → test name ≡ true) [
      | false ↦ λ u i. absurd (cc)
      | true ↦ λ u i.
          elim (n.number == name.number) as (λ t. (n.number == name.number) ≡ t → (t || is_one_of names name) ≡ true → test name ≡ true) [
            | true ↦ λ same j. ap (λ m. test (record { number = m })) (sym (eqb-true n.number name.number same)) ∙ u
            | false ↦ λ other j. quiet-one test names name i j
          ] refl e
    ] refl h

module _ {R D : Type 0} (stack : List EventName) (events : List Event) (l : List Seat) (q : ℕ) (b : Bool) where
  -- quiet acts are acted
  acts-quiet : (s : Sight) (r : Bool) (local : Local R D) (acts : List (Act R D)) (r' : Bool) → quiet_acts r acts ≡ Some r' → (local' : Local R D) × (acted stack events s l q b r local acts ≡ Some (r', local'))
  acts-quiet s r local [] r' h = let e : r ≡ r' = cc in (local, ap (λ r. Some (r, local)) e)
  acts-quiet s false local (consume ∷ acts) r' h = acts-quiet (past s) true local acts r' h
  acts-quiet s true local (consume ∷ acts) r' h = absurd (cc)
  acts-quiet s false local (writes f ∷ acts) r' h = acts-quiet s false (f (shown_sight s) (shows_in stack events l q b false local)) acts r' h
  acts-quiet s true local (writes f ∷ acts) r' h = acts-quiet s true (f (shown_sight s) (shows_in stack events l q b true local)) acts r' h
  acts-quiet s false local (enters n k ∷ acts) r' h = absurd (cc)
  acts-quiet s true local (enters n k ∷ acts) r' h = absurd (cc)
  acts-quiet s false local (exit n ∷ acts) r' h = absurd (cc)
  acts-quiet s true local (exit n ∷ acts) r' h = absurd (cc)
  acts-quiet s false local (links n k ∷ acts) r' h = absurd (cc)
  acts-quiet s true local (links n k ∷ acts) r' h = absurd (cc)
  acts-quiet s false local (choose n k m ∷ acts) r' h = absurd (cc)
  acts-quiet s true local (choose n k m ∷ acts) r' h = absurd (cc)
  acts-quiet s false local (note ∷ acts) r' h = absurd (cc)
  acts-quiet s true local (note ∷ acts) r' h = absurd (cc)
  acts-quiet s false local (exit_noted n ∷ acts) r' h = absurd (cc)
  acts-quiet s true local (exit_noted n ∷ acts) r' h = absurd (cc)
  acts-quiet s false local (enter_noted n ∷ acts) r' h = absurd (cc)
  acts-quiet s true local (enter_noted n ∷ acts) r' h = absurd (cc)

-- what a quiet place comes to
abbrev IsCalm : {R D : Type 0} → (look : Name → Bool) → (waits : Bool) → (bound : ℕ) → Glance R D → Type 0
IsCalm look waits bound (goes_on local name n) = (waits ≡ true) × (look name ≡ true) × (n ≤ bound)
IsCalm look waits bound (is_over r local a n) = ((a ≡ Ok) ⊎ (a ≡ Nok)) × (n ≤ bound)

calm-more : {R D : Type 0} (look : Name → Bool) (waits : Bool) (bound : ℕ) (o : Glance R D) → IsCalm look waits bound o → IsCalm look waits (suc bound) (one_more o)
calm-more look waits bound (goes_on local name n) h = (h.0, h.1, omega (arith, h.2))
calm-more look waits bound (is_over r local a n) h = (h.0, omega (arith, h.1))

calm-answer : {R D : Type 0} (look : Name → Bool) (rank : Name → ℕ) (waits : Bool) (here bound : ℕ) (again : Local R D → Name → Glance R D) (stop : Glance R D)
    → ((local : Local R D) (name : Name) → look name ≡ true → rank name < here → IsCalm look waits bound (again local name))
    → (x : Option Bool) (a : State) → quiet_answer look rank waits here x a ≡ true
    → (y : Option (Bool × Local R D)) → ((r : Bool) → x ≡ Some r → (local : Local R D) × (y ≡ Some (r, local))) → IsCalm look waits (suc bound) (answered again stop y a)
calm-answer look rank waits here bound again stop calm (Some true) (Next name) h y is =
    let it = is true refl in
    let parts = and_parts waits (look name) h in
    rw it.1 (parts.0, parts.1, omega arith)
calm-answer look rank waits here bound again stop calm (Some false) (Retry name) h y is =
    let it = is false refl in
    let parts = and_parts (look name) (nat_lt (rank name) here) h in
    rw it.1 (calm-more look waits bound (again it.0 name) (calm it.0 name parts.0 (ltb-true (rank name) here parts.1)))
calm-answer look rank waits here bound again stop calm (Some true) Ok h y is = let it = is true refl in rw it.1 (inl refl, omega arith)
calm-answer look rank waits here bound again stop calm (Some false) Ok h y is = let it = is false refl in rw it.1 (inl refl, omega arith)
calm-answer look rank waits here bound again stop calm (Some true) Nok h y is = let it = is true refl in rw it.1 (inr refl, omega arith)
calm-answer look rank waits here bound again stop calm (Some false) Nok h y is = let it = is false refl in rw it.1 (inr refl, omega arith)
calm-answer look rank waits here bound again stop calm (Some false) (Next name) h y is = absurd (cc)
calm-answer look rank waits here bound again stop calm (Some true) (Retry name) h y is = absurd (cc)
calm-answer look rank waits here bound again stop calm (Some true) (Error m) h y is = absurd (cc)
calm-answer look rank waits here bound again stop calm (Some false) (Error m) h y is = absurd (cc)
calm-answer look rank waits here bound again stop calm None (Next n) h y is = absurd (cc)
calm-answer look rank waits here bound again stop calm None (Retry n) h y is = absurd (cc)
calm-answer look rank waits here bound again stop calm None Ok h y is = absurd (cc)
calm-answer look rank waits here bound again stop calm None Nok h y is = absurd (cc)
calm-answer look rank waits here bound again stop calm None (Error m) h y is = absurd (cc)

module _ {W R D : Type 0} (table : Table W R D) (names : List Name) (rank : Name → ℕ) (quiet : (previous current : Option W) → loud table names rank previous current ≡ [])
    (g : Given) (text : Text) (stack : List EventName) (events : List Event) where
  abbrev waits_for : List Seat → Bool
  waits_for l = is_some (class_of table.class (first_byte l))

  calm : (bound : ℕ) (previous : Option ℕ) (l : List Seat) (q : ℕ) (b : Bool) (local : Local R D) (name : Name) → is_one_of names name ≡ true → rank name < bound
      → IsCalm (is_one_of names) (waits_for l) bound (glance table g text stack events bound previous l q b local name)
  calm zero previous l q b local name one low = absurd (omega (arith, low))
  calm (suc bound) previous l q b local name one low =
      let c = class_of table.class previous in
      let w = class_of table.class (first_byte l) in
      let again = glance table g text stack events bound previous l q b in
      elim (named table.states name) as (λ x. is_quiet_state table names rank c w name x ≡ true → IsCalm (is_one_of names) (waits_for l) (suc bound) (called table g text stack events again previous l q b local name x)) [
        | None ↦ λ h. absurd (cc)
        | Some state ↦ λ h.
            let r = row_here table g text stack events previous l q b local state in
            let seen = sight g text (shows stack events l q b local) in
            let passes = passes-picked (is_quiet_row table names rank w name) (state.rows c w) g seen (shows stack events l q b (table.first local)) h in
            calm-answer (is_one_of names) rank (waits_for l) (rank name) bound again (uncalled local name)
            (λ local' name' one' less. calm bound previous l q b local' name' one' (omega (arith, less, low)))
            (quiet_acts false r.acts) r.answer passes
            (acted stack events seen l q b false (table.first local) r.acts) (λ r' is. acts-quiet stack events l q b seen false (table.first local) r.acts r' is)
      ] (quiet-one (λ n. is_quiet_state table names rank c w n (named table.states n)) names name (quiet c w) one)

  ends-behind : (bound : ℕ) (l : List Seat) (b : Bool) (rest : Local R D → Name → Look R D) → ((local : Local R D) (name : Name) → waits_for l ≡ true → is_one_of names name ≡ true → LookEnds bound (rest local name))
      → (o : Glance R D) → IsCalm (is_one_of names) (waits_for l) bound o → LookEnds bound (looked_on table g text stack events rest l b o)
  ends-behind bound l b rest further (goes_on local name n) h =
      let it = further local name h.0 h.1 in
      record { answer = it.answer; calls = omega (arith, h.2, it.calls, mul-suc bound (suc (rest local name).count)) }
  ends-behind bound l b rest further (is_over true local a n) h = record { answer = h.0; calls = omega (arith, h.1) }
  ends-behind bound l b rest further (is_over false local a n) h = record { answer = h.0; calls = omega (arith, h.1) }

  quiet-ends : (bound : ℕ) → ((name : Name) → rank name < bound) → (l : List Seat) (previous : Option ℕ) (q : ℕ) (b : Bool) (local : Local R D) (name : Name) → is_one_of names name ≡ true
      → LookEnds bound (scan table g text stack events bound l previous q b local name)
  quiet-ends bound low [] previous q b local name one =
      ends-behind bound [] b (unfed_look table g text stack events) (λ local name waits one. absurd (cc)) (glance table g text stack events bound previous [] q b local name)
      (calm bound previous [] q b local name one (low name))
  quiet-ends bound low (s ∷ ss) previous q b local name one =
      ends-behind bound (s ∷ ss) b (scan table g text stack events bound ss (Some s.byte) (q + 1) false)
      (λ local name waits one. quiet-ends bound low ss (Some s.byte) (q + 1) false local name one)
      (glance table g text stack events bound previous (s ∷ ss) q b local name) (calm bound previous (s ∷ ss) q b local name one (low name))

pub quiet-looks-end : {W R D : Type 0} (table : Table W R D) → QuietLooksEnd table
quiet-looks-end table names rank bound quiet low g text stack events l previous q b local name one = quiet-ends table names rank quiet g text stack events bound low l previous q b local name one
