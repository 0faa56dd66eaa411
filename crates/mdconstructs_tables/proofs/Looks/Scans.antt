-- The reading of a look is what `scan` says.
use Rattle.std.proofs.Common.{◌≡◌, ℕ, zero, suc, ◌+◌, ◌∷◌, ◌++◌, List, [], Bool, true, false, cond, Option, Some, None, ◌⊎◌, inl, inr, drop, length, refl, sym, ap, ◌∙◌, subst, arith, lt-ltb, le-ltb}
use Rattle.std.proofs.lemmas.Option.{same_Some, slice_get_within}
use Rattle.markdown_base.proofs.Common.{drop-next}
use Rattle.markdown_base.specs.declared.event.Event.{Event}
use Rattle.markdown_base.specs.declared.event.Name.{Name as EventName}
use Rattle.markdown_base.specs.declared.state.Name.{Name}
use Rattle.markdown_base.specs.declared.state.State.{State}
use Rattle.markdown_base.specs.declared.state.State.TheVariants.{Next, Retry, Ok, Nok, Error}
use Rattle.markdown_base.specs.Virtual.{Seat}
use Rattle.markdown_tokenizer.specs.declared.waiting.Waits.TheVariants.{Nothing, Byte, End}
use Rattle.markdown_tokenizer.specs.Text.{Given, Text}
use Rattle.markdown_tokenizer.specs.Configuration.{Configuration, Local, Choice, Step}
use Rattle.markdown_tokenizer.specs.Sight.{Sight, sight, byte_of, seat_before, current_of}
use Rattle.markdown_tokenizer.specs.Reading.{Reading, EndsIn, read, read_step, fed, more_calls}
use Rattle.markdown_tokenizer.proofs.Readings.Bounds.{fed-ends, called-ends, more-more, more-zero}
use Rattle.mdconstructs_tables.specs.Rows.{Act, enters, exit, consume, links, writes, choose, note, exit_noted, enter_noted, StateRows, Table, class_of, past, shown_sight, picked, named, step_at, does, chooses, step_of}
use Rattle.mdconstructs_tables.proofs.Looks.Left.{at-front, past-end}
use Rattle.mdconstructs_tables.specs.Looks.{waits_at, ended_at, first_byte, Look, Glance, goes_on, is_over, one_more, answered, held, shows, shows_in, acted, row_here, called, glance, looked_on, scan, looked, uncalled, unfed_look, IsShown, look_from, Plays, LooksAreScans}

-- what waits is the first of the bytes that are left
pub sees : (text : Text) (l : List Seat) (q : ℕ) → drop q text.seats ≡ l → current_of text q (waits_at l) ≡ first_byte l
sees text [] q at = refl
sees text (s ∷ ss) q at = ap byte_of (at-front text.seats q s ss at)

module _ {R D : Type 0} (stack : List EventName) (events : List Event) where
  -- what is fed
  pub feeds : (text : Text) (l : List Seat) (q : ℕ) (b : Bool) (local : Local R D) → drop q text.seats ≡ l → fed text (held stack events q Nothing b local) ≡ shows stack events l q b local
  feeds text [] q b local at = ap (λ t. cond t (held stack events q Byte b local) (held stack events q End true local)) (le-ltb q (length text.seats) (past-end text.seats q at))
  feeds text (s ∷ ss) q b local at =
      ap (λ t. cond t (held stack events q Byte b local) (held stack events q End true local)) (lt-ltb q (length text.seats) (slice_get_within text.seats q s (at-front text.seats q s ss at)))

  -- what quiet acts make of a configuration
  pub acts-do : (l : List Seat) (q : ℕ) (b r : Bool) (local : Local R D) (acts : List (Act R D)) (r' : Bool) (local' : Local R D) (s : Sight) (cs : List Choice)
      → acted stack events s l q b r local acts ≡ Some (r', local')
      → (does acts s (shows_in stack events l q b r local) ≡ shows_in stack events l q b r' local') × (chooses acts s (shows_in stack events l q b r local) cs ≡ cs)
  acts-do l q b r local [] r' local' s cs h =
      subst (λ (x : Bool × Local R D). (shows_in stack events l q b r local ≡ shows_in stack events l q b x.0 x.1) × (cs ≡ cs)) (same_Some _ _ h) (refl, refl)
  acts-do l q b false local (consume ∷ acts) r' local' s cs h = acts-do l q b true local acts r' local' (past s) cs h
  acts-do l q b true local (consume ∷ acts) r' local' s cs h = absurd (cc)
  acts-do l q b false local (writes f ∷ acts) r' local' s cs h = acts-do l q b false (f (shown_sight s) (shows_in stack events l q b false local)) acts r' local' s cs h
  acts-do l q b true local (writes f ∷ acts) r' local' s cs h = acts-do l q b true (f (shown_sight s) (shows_in stack events l q b true local)) acts r' local' s cs h
  acts-do l q b false local (enters n k ∷ acts) r' local' s cs h = absurd (cc)
  acts-do l q b true local (enters n k ∷ acts) r' local' s cs h = absurd (cc)
  acts-do l q b false local (exit n ∷ acts) r' local' s cs h = absurd (cc)
  acts-do l q b true local (exit n ∷ acts) r' local' s cs h = absurd (cc)
  acts-do l q b false local (links n k ∷ acts) r' local' s cs h = absurd (cc)
  acts-do l q b true local (links n k ∷ acts) r' local' s cs h = absurd (cc)
  acts-do l q b false local (choose n k m ∷ acts) r' local' s cs h = absurd (cc)
  acts-do l q b true local (choose n k m ∷ acts) r' local' s cs h = absurd (cc)
  acts-do l q b false local (note ∷ acts) r' local' s cs h = absurd (cc)
  acts-do l q b true local (note ∷ acts) r' local' s cs h = absurd (cc)
  acts-do l q b false local (exit_noted n ∷ acts) r' local' s cs h = absurd (cc)
  acts-do l q b true local (exit_noted n ∷ acts) r' local' s cs h = absurd (cc)
  acts-do l q b false local (enter_noted n ∷ acts) r' local' s cs h = absurd (cc)
  acts-do l q b true local (enter_noted n ∷ acts) r' local' s cs h = absurd (cc)

-- what a place comes to, as a configuration, a state and calls
module _ {R D : Type 0} (stack : List EventName) (events : List Event) (l : List Seat) (q : ℕ) (b : Bool) where
  abbrev ends_at : Glance R D → Configuration R D
  ends_at (goes_on local name n) = held stack events (q + 1) Nothing false local
  ends_at (is_over r local ok n) = shows_in stack events l q b r local

  abbrev ends_with : Glance R D → State
  ends_with (goes_on local name n) = Next name
  ends_with (is_over r local a n) = a

  abbrev calls_of : Glance R D → ℕ
  calls_of (goes_on local name n) = n
  calls_of (is_over r local ok n) = n

module _ {R D : Type 0} (g : Given) (step : Sight → Configuration R D → Name → Step R D) (text : Text) where
  -- So many calls that make no choice lead from one state to another
  pub record Goes (n : ℕ) (k : Configuration R D) (s : State) (k' : Configuration R D) (s' : State) : Type 0 where
    pub leads : (cs : List Choice) (calls : ℕ) (z : Reading R D) → EndsIn g step text (calls + n) k' cs s' z → EndsIn g step text calls k cs s z
    pub reads : (m : ℕ) → read g step text (n + m) k s ≡ more_calls n (read g step text m k' s')

  pub goes-nowhere : (k : Configuration R D) (s : State) → Goes 0 k s k s
  goes-nowhere k s = record {
    leads = λ cs calls z h. let e : calls + 0 ≡ calls = omega arith in subst (λ n. EndsIn g step text n k cs s z) e h;
    reads = λ m. let e : 0 + m ≡ m = omega arith in ap (λ n. read g step text n k s) e ∙ sym (more-zero (read g step text m k s));
  }

  pub goes-on : (n m : ℕ) (k k1 k' : Configuration R D) (s s1 s' : State) → Goes n k s k1 s1 → Goes m k1 s1 k' s' → Goes (n + m) k s k' s'
  goes-on n m k k1 k' s s1 s' one two = record {
    leads = λ cs calls z h. one.leads cs calls z (two.leads cs (calls + n) z (let e : calls + (n + m) ≡ (calls + n) + m = omega arith in subst (λ i. EndsIn g step text i k' cs s' z) e h));
    reads = λ j.
        let e : (n + m) + j ≡ n + (m + j) = omega arith in
        ap (λ i. read g step text i k s) e ∙ one.reads (m + j) ∙ ap (more_calls n) (two.reads j) ∙ more-more n m (read g step text j k' s');
  }

  pub goes-fed : (n : ℕ) (k : Configuration R D) (name : Name) (k' : Configuration R D) (s' : State) → Goes n (fed text k) (Retry name) k' s' → Goes n k (Next name) k' s'
  goes-fed n k name k' s' h = record {
    leads = λ cs calls z e. (fed-ends g step text calls k cs name z).0 (h.leads cs calls z e);
    reads = λ m.
        let same : read g step text (n + m) k (Next name) ≡ read g step text (n + m) (fed text k) (Retry name) =
        elim (n + m) as (λ i. read g step text i k (Next name) ≡ read g step text i (fed text k) (Retry name)) [ zero ↦ refl | suc i ↦ refl ] in
        same ∙ h.reads m;
  }

  pub goes-called : (k : Configuration R D) (name : Name) (k1 : Configuration R D) (a : State) → step (sight g text k) k name ≡ record { configuration = k1; choices = []; answer = a } → Goes 1 k (Retry name) k1 a
  goes-called k name k1 a is = record {
    leads = λ cs calls z h.
        (called-ends g step text calls k cs name z).0
        (subst (λ (q : Step R D). EndsIn g step text (calls + 1) q.configuration (q.choices ++ cs) q.answer z) (sym is) h);
    reads = λ m.
        let e : 1 + m ≡ suc m = omega arith in
        ap (λ i. read g step text i k (Retry name)) e ∙ ap (read_step (read g step text m)) is;
  }

module _ {W R D : Type 0} (table : Table W R D) (g : Given) (text : Text) (step : Sight → Configuration R D → Name → Step R D) (plays : Plays table g step) (stack : List EventName) (events : List Event) where
  abbrev pub Runs : (n : ℕ) (k : Configuration R D) (s : State) (k' : Configuration R D) (s' : State) → Type 0
  Runs n k s k' s' = Goes g step text n k s k' s'

  module _ (l : List Seat) (q : ℕ) (b : Bool) (previous : Option ℕ) (at : drop q text.seats ≡ l) (behind : byte_of (seat_before text q) ≡ previous) where
    abbrev Comes : Local R D → Name → Glance R D → Type 0
    Comes local name o = Runs (calls_of stack events l q b o) (shows stack events l q b local) (Retry name) (ends_at stack events l q b o) (ends_with stack events l q b o)

    -- the step of a state whose row is quiet
    pub step-is : (state : StateRows W R D) (local : Local R D) (name : Name) (r : Bool) (local' : Local R D)
        → named table.states name ≡ Some state
        → let row = row_here table g text stack events previous l q b local state in
        let s = sight g text (shows stack events l q b local) in
        acted stack events s l q b false (table.first local) row.acts ≡ Some (r, local')
        → step (sight g text (shows stack events l q b local)) (shows stack events l q b local) name
        ≡ record { configuration = shows_in stack events l q b r local'; choices = []; answer = row.answer }
    step-is state local name r local' is h =
        let s = sight g text (shows stack events l q b local) in
        let k1 = shows stack events l q b (table.first local) in
        let row = row_here table g text stack events previous l q b local state in
        let done = acts-do stack events l q b false (table.first local) row.acts r local' s [] h in
        plays name state is s (shows stack events l q b local)
        ∙ ap (λ o. step_at table g o s k1) is
        ∙ ap (λ o. step_of (picked (state.rows (class_of table.class o) (class_of table.class s.current)) g s k1) s k1) behind
        ∙ ap (λ o. step_of (picked (state.rows (class_of table.class previous) (class_of table.class o)) g s k1) s k1) (sees text l q at)
        ∙ ap (λ k. record { configuration = k; choices = chooses row.acts s k1 []; answer = row.answer }) done.0
        ∙ ap (λ cs. record { configuration = shows_in stack events l q b r local'; choices = cs; answer = row.answer }) done.1

    -- and is called again
    again-once : (local : Local R D) (name : Name) (local' : Local R D) (name' : Name) → Runs 1 (shows stack events l q b local) (Retry name) (shows stack events l q b local') (Retry name')
        → (p : Glance R D) → Comes local' name' p → Comes local name (one_more p)
    again-once local name local' name' once (goes_on local2 name2 n) more =
        let e : 1 + n ≡ suc n = omega arith in
        subst (λ i. Runs i (shows stack events l q b local) (Retry name) (held stack events (q + 1) Nothing false local2) (Next name2)) e
        (goes-on g step text 1 n _ _ _ _ _ _ once more)
    again-once local name local' name' once (is_over r local2 a n) more =
        let e : 1 + n ≡ suc n = omega arith in
        subst (λ i. Runs i (shows stack events l q b local) (Retry name) (shows_in stack events l q b r local2) a) e
        (goes-on g step text 1 n _ _ _ _ _ _ once more)

    -- it may stop at once
    stays : (local : Local R D) (name : Name) → Comes local name (uncalled local name)
    stays local name = goes-nowhere g step text (shows stack events l q b local) (Retry name)

    -- what it answers
    answers : (again : Local R D → Name → Glance R D) → ((local : Local R D) (name : Name) → Comes local name (again local name))
        → (local : Local R D) (name : Name) (x : Option (Bool × Local R D)) (a : State)
        → ((r : Bool) (local' : Local R D) → x ≡ Some (r, local') → Runs 1 (shows stack events l q b local) (Retry name) (shows_in stack events l q b r local') a)
        → Comes local name (answered again (uncalled local name) x a)
    answers again goes local name (Some (true, local')) (Next name') once = once true local' refl
    answers again goes local name (Some (false, local')) (Retry name') once = again-once local name local' name' (once false local' refl) (again local' name') (goes local' name')
    answers again goes local name (Some (true, local')) Ok once = once true local' refl
    answers again goes local name (Some (false, local')) Ok once = once false local' refl
    answers again goes local name (Some (true, local')) Nok once = once true local' refl
    answers again goes local name (Some (false, local')) Nok once = once false local' refl
    answers again goes local name (Some (false, local')) (Next name') once = stays local name
    answers again goes local name (Some (true, local')) (Retry name') once = stays local name
    answers again goes local name (Some (true, local')) (Error m) once = stays local name
    answers again goes local name (Some (false, local')) (Error m) once = stays local name
    answers again goes local name None (Next n) once = stays local name
    answers again goes local name None (Retry n) once = stays local name
    answers again goes local name None Ok once = stays local name
    answers again goes local name None Nok once = stays local name
    answers again goes local name None (Error m) once = stays local name

    comes : (bound : ℕ) (local : Local R D) (name : Name) → Comes local name (glance table g text stack events bound previous l q b local name)
    comes zero local name = stays local name
    comes (suc bound) local name =
        let again = glance table g text stack events bound previous l q b in
        elim (named table.states name) as (λ x. named table.states name ≡ x → Comes local name (called table g text stack events again previous l q b local name x)) [
          | None ↦ λ is. stays local name
          | Some state ↦ λ is.
              let row = row_here table g text stack events previous l q b local state in
              let s = sight g text (shows stack events l q b local) in
              answers again (comes bound) local name (acted stack events s l q b false (table.first local) row.acts) row.answer
              (λ r local' did. goes-called g step text (shows stack events l q b local) name (shows_in stack events l q b r local') row.answer (step-is state local name r local' is did))
        ] refl

    -- and the bytes behind it
    goes-behind : (rest : Local R D → Name → Look R D)
        → ((local : Local R D) (name : Name) → let r = rest local name in Runs r.calls (held stack events (q + 1) Nothing false local) (Next name) (looked table g text stack events (q + 1) r) r.answer)
        → (local : Local R D) (name : Name) (o : Glance R D) → Comes local name o
        → let r = looked_on table g text stack events rest l b o in Runs r.calls (shows stack events l q b local) (Retry name) (looked table g text stack events q r) r.answer
    goes-behind rest further local name (goes_on local' name' n) here =
        let p = rest local' name' in
        let place : q + 1 + p.count ≡ q + suc p.count = omega arith in
        subst (λ i. Runs (n + p.calls) (shows stack events l q b local) (Retry name) (held stack events i p.waiting p.ended p.local) p.answer) place
        (goes-on g step text n p.calls _ _ _ _ _ _ here (further local' name'))
    goes-behind rest further local name (is_over true local' a n) here = here
    goes-behind rest further local name (is_over false local' a n) here =
        let place : q ≡ q + 0 = omega arith in
        subst (λ i. Runs n (shows stack events l q b local) (Retry name) (held stack events i (waits_at l) (ended_at b l) local') a) place here

  -- a scan is read
  pub scan-goes : (bound : ℕ) (l : List Seat) (q : ℕ) (b : Bool) (previous : Option ℕ) (local : Local R D) (name : Name) → drop q text.seats ≡ l → byte_of (seat_before text q) ≡ previous
      → let r = scan table g text stack events bound l previous q b local name in
      Runs r.calls (shows stack events l q b local) (Retry name) (looked table g text stack events q r) r.answer
  scan-goes bound [] q b previous local name at behind =
      goes-behind [] q b previous at behind (unfed_look table g text stack events)
      (λ local name.
      let place : q + 1 ≡ q + 1 + 0 = omega arith in
      subst (λ i. Runs 0 (held stack events (q + 1) Nothing false local) (Next name) (held stack events i Nothing false local) (Next name)) place
      (goes-nowhere g step text (held stack events (q + 1) Nothing false local) (Next name)))
      local name (glance table g text stack events bound previous [] q b local name) (comes [] q b previous at behind bound local name)
  scan-goes bound (s ∷ ss) q b previous local name at behind =
      let next = drop-next text.seats q s ss at in
      let one : suc q ≡ q + 1 = omega arith in
      let byte : byte_of (seat_before text (q + 1)) ≡ Some s.byte = ap (λ i. byte_of (seat_before text i)) (sym one) ∙ ap byte_of (at-front text.seats q s ss at) in
      goes-behind (s ∷ ss) q b previous at behind (scan table g text stack events bound ss (Some s.byte) (q + 1) false)
      (λ local name.
      let r = scan table g text stack events bound ss (Some s.byte) (q + 1) false local name in
      goes-fed g step text r.calls (held stack events (q + 1) Nothing false local) name (looked table g text stack events (q + 1) r) r.answer
      (subst (λ k. Runs r.calls k (Retry name) (looked table g text stack events (q + 1) r) r.answer) (sym (feeds stack events text ss (q + 1) false local next))
      (scan-goes bound ss (q + 1) false (Some s.byte) local name next byte)))
      local name (glance table g text stack events bound previous (s ∷ ss) q b local name)
      (comes (s ∷ ss) q b previous at behind bound local name)

-- with no calls left, Ok and Nok are read
ends-there : {R D : Type 0} (g : Given) (step : Sight → Configuration R D → Name → Step R D) (text : Text) (k : Configuration R D) (a : State) (n : ℕ) → (a ≡ Ok) ⊎ (a ≡ Nok)
    → more_calls n (read g step text 0 k a) ≡ Some (record { configuration = k; answer = a; calls = n })
ends-there g step text k a n (inl is) = let e : n + 0 ≡ n = omega arith in rw is (ap (λ i. Some (record { configuration = k; answer = Ok; calls = i })) e)
ends-there g step text k a n (inr is) = let e : n + 0 ≡ n = omega arith in rw is (ap (λ i. Some (record { configuration = k; answer = Nok; calls = i })) e)

pub looks-are-scans : {W R D : Type 0} (table : Table W R D) (g : Given) (text : Text) (step : Sight → Configuration R D → Name → Step R D) → Plays table g step → LooksAreScans table g text step
looks-are-scans {W} {R} {D} table g text step plays =
    let goes = λ (bound : ℕ) (k : Configuration R D) (is : IsShown text k) (name : Name).
    let r = look_from table g text bound k is name in
    subst (λ k'. Goes g step text r.calls k' (Retry name) (looked table g text k.stack k.events k.position r) r.answer) (sym is.is)
    (scan-goes table g text step plays k.stack k.events bound (drop k.position text.seats) k.position is.mark (byte_of (seat_before text k.position)) k.local name refl refl) in
    record {
      leads = λ bound k is name choices calls z h. (goes bound k is name).leads choices calls z h;
      reads = λ bound k is name more. (goes bound k is name).reads more;
      ends = λ bound k is name over.
          let r = look_from table g text bound k is name in
          let none : r.calls ≡ r.calls + 0 = omega arith in
          ap (λ n. read g step text n k (Retry name)) none ∙ (goes bound k is name).reads 0
          ∙ ends-there g step text (looked table g text k.stack k.events k.position r) r.answer r.calls over;
    }
