-- The reading of a look with checks is what `deep_scan` says.
use Rattle.std.proofs.Common.{◌≡◌, ℕ, zero, suc, ◌+◌, ◌∷◌, ◌++◌, List, [], Bool, true, false, Option, Some, None, drop, refl, sym, ap, ◌∙◌, subst, arith}
use Rattle.std.proofs.Math.Seq.{take-length}
use Rattle.markdown_base.proofs.Common.{drop-next}
use Rattle.markdown_base.specs.declared.event.Event.{Event}
use Rattle.markdown_base.specs.declared.event.Name.{Name as EventName}
use Rattle.markdown_base.specs.declared.state.Name.{Name}
use Rattle.markdown_base.specs.declared.state.State.{State}
use Rattle.markdown_base.specs.declared.state.State.TheVariants.{Next, Retry, Ok, Nok, Error}
use Rattle.markdown_base.specs.Virtual.{Seat}
use Rattle.markdown_tokenizer.specs.declared.waiting.AttemptKind.TheVariants.{Check}
use Rattle.markdown_tokenizer.specs.declared.waiting.Waits.TheVariants.{Nothing}
use Rattle.markdown_tokenizer.specs.Calls.{check_at}
use Rattle.markdown_tokenizer.specs.Text.{Given, Text}
use Rattle.markdown_tokenizer.specs.Configuration.{Configuration, Local, Choice, Step}
use Rattle.markdown_tokenizer.specs.Sight.{Sight, sight, byte_of, seat_before}
use Rattle.markdown_tokenizer.specs.Reading.{Reading, EndsIn, fed, restored}
use Rattle.markdown_tokenizer.proofs.Readings.Bounds.{fed-ends, called-ends, settled-ok-ends, settled-nok-ends}
use Rattle.mdconstructs_tables.proofs.Looks.Left.{at-front}
use Rattle.mdconstructs_tables.proofs.Looks.Scans.{acts-do, feeds, sees, step-is, scan-goes}
use Rattle.mdconstructs_tables.specs.DeepLooks.{Turn, reads_on, ends, later, over_at, turned, goes_back, settled_by, checked, row_turned, LookOver, turn_of, turns, turned_on, look_over, deep_scan, DeepLooksAreScans, deep_look_from}
use Rattle.mdconstructs_tables.specs.Looks.{ended_at, Look, held, shows, shows_in, acted, row_here, looked, unfed_look, Plays}
use Rattle.mdconstructs_tables.specs.Rows.{Act, choose, StateRows, Table, class_of, picked, named, does, chooses, step_at, step_of}

-- the end mark is set at the end
marked-twice : (mark : Bool) (l : List Seat) → ended_at (ended_at mark l) l ≡ ended_at mark l
marked-twice mark [] = refl
marked-twice mark (s ∷ ss) = refl

module _ {R D : Type 0} (g : Given) (step : Sight → Configuration R D → Name → Step R D) (text : Text) where
  -- So many calls lead from one state to another, whatever choices wait
  abbrev pub Leads : (n : ℕ) (k : Configuration R D) (s : State) (k' : Configuration R D) (s' : State) → Type 0
  Leads n k s k' s' = (cs : List Choice) (calls : ℕ) (z : Reading R D) → EndsIn g step text (calls + n) k' cs s' z → EndsIn g step text calls k cs s z

  leads-nowhere : (k : Configuration R D) (s : State) → Leads 0 k s k s
  leads-nowhere k s cs calls z h = let e : calls + 0 ≡ calls = omega arith in subst (λ n. EndsIn g step text n k cs s z) e h

  leads-on : (n m : ℕ) (k k1 k' : Configuration R D) (s s1 s' : State) → Leads n k s k1 s1 → Leads m k1 s1 k' s' → Leads (n + m) k s k' s'
  leads-on n m k k1 k' s s1 s' one two cs calls z h =
      one cs calls z (two cs (calls + n) z (let e : calls + (n + m) ≡ (calls + n) + m = omega arith in subst (λ i. EndsIn g step text i k' cs s' z) e h))

  leads-fed : (k : Configuration R D) (name : Name) → Leads 0 k (Next name) (fed text k) (Retry name)
  leads-fed k name cs calls z h = let e : calls + 0 ≡ calls = omega arith in (fed-ends g step text calls k cs name z).0 (subst (λ n. EndsIn g step text n (fed text k) cs (Retry name) z) e h)

  leads-called : (k : Configuration R D) (name : Name) (k1 : Configuration R D) (a : State) → step (sight g text k) k name ≡ record { configuration = k1; choices = []; answer = a } → Leads 1 k (Retry name) k1 a
  leads-called k name k1 a is cs calls z h =
      (called-ends g step text calls k cs name z).0
      (subst (λ (q : Step R D). EndsIn g step text (calls + 1) q.configuration (q.choices ++ cs) q.answer z) (sym is) h)

  -- a call makes a choice, whose calls end with Ok or with Nok
  leads-ok : (k : Configuration R D) (name : Name) (k1 : Configuration R D) (a : State) (c : Choice) (n : ℕ) (k2 : Configuration R D) (a2 : State) → a2 ≡ Ok
      → step (sight g text k) k name ≡ record { configuration = k1; choices = c ∷ []; answer = a } → Leads n k1 a k2 a2 → c.kind ≡ Check → Leads (suc n) k (Retry name) (restored c.saved k2) c.ok
  leads-ok k name k1 a c n k2 a2 ok is inner kind cs calls z h =
      (called-ends g step text calls k cs name z).0
      (subst (λ (q : Step R D). EndsIn g step text (calls + 1) q.configuration (q.choices ++ cs) q.answer z) (sym is)
      (inner (c ∷ cs) (calls + 1) z
      (let e : calls + suc n ≡ calls + 1 + n = omega arith in
      subst (λ a. EndsIn g step text (calls + 1 + n) k2 (c ∷ cs) a z) (sym ok)
      ((settled-ok-ends g step text (calls + 1 + n) k2 c cs z).0
      (rw kind (subst (λ i. EndsIn g step text i (restored c.saved k2) cs c.ok z) e h))))))

  leads-nok : (k : Configuration R D) (name : Name) (k1 : Configuration R D) (a : State) (c : Choice) (n : ℕ) (k2 : Configuration R D) (a2 : State) → a2 ≡ Nok
      → step (sight g text k) k name ≡ record { configuration = k1; choices = c ∷ []; answer = a } → Leads n k1 a k2 a2 → c.kind ≡ Check → Leads (suc n) k (Retry name) (restored c.saved k2) c.nok
  leads-nok k name k1 a c n k2 a2 nok is inner kind cs calls z h =
      (called-ends g step text calls k cs name z).0
      (subst (λ (q : Step R D). EndsIn g step text (calls + 1) q.configuration (q.choices ++ cs) q.answer z) (sym is)
      (inner (c ∷ cs) (calls + 1) z
      (let e : calls + suc n ≡ calls + 1 + n = omega arith in
      subst (λ a. EndsIn g step text (calls + 1 + n) k2 (c ∷ cs) a z) (sym nok)
      ((settled-nok-ends g step text (calls + 1 + n) k2 c cs z).0
      (rw kind (subst (λ i. EndsIn g step text i (restored c.saved k2) cs c.nok z) e h))))))

module _ {W R D : Type 0} (table : Table W R D) (g : Given) (text : Text) (step : Sight → Configuration R D → Name → Step R D) (plays : Plays table g step) (stack : List EventName) (events : List Event) where
  abbrev Runs : (n : ℕ) (k : Configuration R D) (s : State) (k' : Configuration R D) (s' : State) → Type 0
  Runs n k s k' s' = Leads g step text n k s k' s'

  -- a look leads to where it ends
  abbrev LooksOver : LookOver table g text stack events → Type 0
  LooksOver over = (l : List Seat) (previous : Option ℕ) (q : ℕ) (b : Bool) (local : Local R D) (name : Name) → drop q text.seats ≡ l → byte_of (seat_before text q) ≡ previous
      → let r = over l previous q b local name in Runs r.calls (shows stack events l q b local) (Retry name) (looked table g text stack events q r) r.answer

  module _ (inner : LookOver table g text stack events) (looks : LooksOver inner) where
    module _ (l : List Seat) (q : ℕ) (b : Bool) (previous : Option ℕ) (at : drop q text.seats ≡ l) (behind : byte_of (seat_before text q) ≡ previous) where
      abbrev ends_there : Turn R D → Configuration R D
      ends_there (reads_on local name n) = held stack events (q + 1) Nothing false local
      ends_there (ends r) = looked table g text stack events q r

      abbrev ends_with : Turn R D → State
      ends_with (reads_on local name n) = Next name
      ends_with (ends r) = r.answer

      abbrev calls_of : Turn R D → ℕ
      calls_of (reads_on local name n) = n
      calls_of (ends r) = r.calls

      abbrev Comes : Configuration R D → State → Turn R D → Type 0
      Comes k s o = Runs (calls_of o) k s (ends_there o) (ends_with o)

      -- so many calls earlier
      comes-later : (n : ℕ) (k k1 : Configuration R D) (s s1 : State) → Runs n k s k1 s1 → (o : Turn R D) → Comes k1 s1 o → Comes k s (later n o)
      comes-later n k k1 s s1 once (reads_on local name m) more = leads-on g step text n m k k1 _ s s1 _ once more
      comes-later n k k1 s s1 once (ends r) more = leads-on g step text n r.calls k k1 _ s s1 _ once more

      -- over at the place
      comes-over : (n : ℕ) (k : Configuration R D) (s : State) (read : Bool) (local : Local R D) (a : State) → Runs n k s (shows_in stack events l q b read local) a → Comes k s (ends (over_at l b read local a n))
      comes-over n k s true local a h = h
      comes-over n k s false local a h =
          let place : q ≡ q + 0 = omega arith in
          subst (λ i. Runs n k s (held stack events i (shows stack events l q b local).waiting (ended_at b l) local) a) place h

      stays : (local : Local R D) (name : Name) → Comes (shows stack events l q b local) (Retry name) (ends (over_at l b false local (Retry name) 0))
      stays local name = comes-over 0 (shows stack events l q b local) (Retry name) false local (Retry name) (leads-nowhere g step text (shows stack events l q b local) (Retry name))

      module _ (again : Local R D → Name → Turn R D) (goes : (local : Local R D) (name : Name) → Comes (shows stack events l q b local) (Retry name) (again local name)) (local : Local R D) (name : Name) where
        abbrev here : Configuration R D
        here = shows stack events l q b local

        abbrev stop : Turn R D
        stop = ends (over_at l b false local (Retry name) 0)

        -- a row without a check
        turns-on : (x : Option (Bool × Local R D)) (a : State)
            → ((r : Bool) (local' : Local R D) → x ≡ Some (r, local') → Runs 1 here (Retry name) (shows_in stack events l q b r local') a)
            → Comes here (Retry name) (turned l b again stop x a)
        turns-on (Some (true, local')) (Next name') once = once true local' refl
        turns-on (Some (false, local')) (Retry name') once =
            comes-later 1 here (shows stack events l q b local') (Retry name) (Retry name') (once false local' refl) (again local' name') (goes local' name')
        turns-on (Some (read, local')) Ok once = comes-over 1 here (Retry name) read local' Ok (once read local' refl)
        turns-on (Some (read, local')) Nok once = comes-over 1 here (Retry name) read local' Nok (once read local' refl)
        turns-on x a once = stays local name

        -- a check goes back to the place
        comes-back : (n : ℕ) (local' : Local R D) (a : State) → Runs n here (Retry name) (held stack events q Nothing (ended_at b l) local') a → Comes here (Retry name) (goes_back l b again stop n local' a)
        comes-back n local' (Next name') once =
            let k = held stack events q Nothing (ended_at b l) local' in
            let same : fed text k ≡ shows stack events l q b local' =
            feeds stack events text l q (ended_at b l) local' at ∙ ap (λ m. held stack events q (shows stack events l q b local').waiting m local') (marked-twice b l) in
            let none : n + 0 ≡ n = omega arith in
            let fed_there = leads-on g step text n 0 here k (fed text k) (Retry name) (Next name') (Retry name') once (leads-fed g step text k name') in
            comes-later n here (shows stack events l q b local') (Retry name) (Retry name') (subst (λ i. Runs i here (Retry name) (shows stack events l q b local') (Retry name')) none (subst (λ k. Runs (n + 0) here (Retry name) k (Retry name')) same fed_there)) (again local' name') (goes local' name')
        comes-back n local' Ok once =
            let place : q ≡ q + 0 = omega arith in
            subst (λ i. Runs n here (Retry name) (held stack events i Nothing (ended_at b l) local') Ok) place once
        comes-back n local' Nok once =
            let place : q ≡ q + 0 = omega arith in
            subst (λ i. Runs n here (Retry name) (held stack events i Nothing (ended_at b l) local') Nok) place once
        comes-back n local' (Retry name') once = stays local name
        comes-back n local' (Error m) once = stays local name

        -- by what its look ended with
        comes-by : (a : State) (ok nok : State) (n : ℕ) (local' : Local R D) → (a ≡ Ok → Runs n here (Retry name) (held stack events q Nothing (ended_at b l) local') ok)
            → (a ≡ Nok → Runs n here (Retry name) (held stack events q Nothing (ended_at b l) local') nok) → Comes here (Retry name) (settled_by l b again stop a ok nok n local')
        comes-by Ok ok nok n local' well badly = comes-back n local' ok (well refl)
        comes-by Nok ok nok n local' well badly = comes-back n local' nok (badly refl)
        comes-by a ok nok n local' well badly = stays local name

        -- a row with a check
        checks-on : (ok nok : State) (x : Option (Bool × Local R D)) (a : State) (k0 : Configuration R D) → check_at ok nok k0 ≡ check_at ok nok here
            → ((local' : Local R D) → x ≡ Some (false, local') → step (sight g text here) here name ≡ record { configuration = shows stack events l q b local'; choices = check_at ok nok k0 ∷ []; answer = a })
            → Comes here (Retry name) (checked l b again stop (inner l previous q b) ok nok x a)
        checks-on ok nok (Some (false, local')) (Retry name') k0 saves once =
            let r = inner l previous q b local' name' in
            let look = looks l previous q b local' name' at behind in
            let c : Choice = check_at ok nok here in
            let is = once local' refl ∙ ap (λ c. record { configuration = shows stack events l q b local'; choices = c ∷ []; answer = Retry name' }) saves in
            let k2 = looked table g text stack events q r in
            let back : restored c.saved k2 ≡ held stack events q Nothing (ended_at b l) r.local = ap (λ es. record { position = q; waiting = Nothing; ended = ended_at b l; events = es; stack = stack; local = r.local }) (take-length events) in
            comes-by r.answer ok nok (suc r.calls) r.local
            (λ e. subst (λ k. Runs (suc r.calls) here (Retry name) k ok) back (leads-ok g step text here name (shows stack events l q b local') (Retry name') c r.calls k2 r.answer e is look refl))
            (λ e. subst (λ k. Runs (suc r.calls) here (Retry name) k nok) back (leads-nok g step text here name (shows stack events l q b local') (Retry name') c r.calls k2 r.answer e is look refl))
        checks-on ok nok x a k0 saves once = stays local name

        -- a row
        abbrev acts_to : List (Act R D) → Option (Bool × Local R D)
        acts_to acts = acted stack events (sight g text here) l q b false (table.first local) acts

        rows-on : (acts : List (Act R D)) (a : State)
            → ((r : Bool) (local' : Local R D) → acts_to acts ≡ Some (r, local') → Runs 1 here (Retry name) (shows_in stack events l q b r local') a)
            → ((ok nok : State) (more : List (Act R D)) (local' : Local R D) → acts ≡ choose Check ok nok ∷ more → acts_to more ≡ Some (false, local')
            → step (sight g text here) here name ≡ record { configuration = shows stack events l q b local'; choices = check_at ok nok (shows stack events l q b (table.first local)) ∷ []; answer = a })
            → Comes here (Retry name) (row_turned l b again stop (inner l previous q b) acts_to acts a)
        rows-on (choose Check ok nok ∷ acts) a once check =
            checks-on ok nok (acts_to acts) a (shows stack events l q b (table.first local)) refl (λ local' did. check ok nok acts local' refl did)
        rows-on acts a once check = turns-on (acts_to acts) a once

      -- the step of a state whose row makes a check
      step-checks : (state : StateRows W R D) (local : Local R D) (name : Name) (ok nok : State) (acts : List (Act R D)) (local' : Local R D)
          → named table.states name ≡ Some state
          → let row = row_here table g text stack events previous l q b local state in
          let s = sight g text (shows stack events l q b local) in
          row.acts ≡ choose Check ok nok ∷ acts → acted stack events s l q b false (table.first local) acts ≡ Some (false, local')
          → step s (shows stack events l q b local) name
          ≡ record { configuration = shows stack events l q b local'; choices = check_at ok nok (shows stack events l q b (table.first local)) ∷ []; answer = row.answer }
      step-checks state local name ok nok acts local' is are h =
          let s = sight g text (shows stack events l q b local) in
          let k1 = shows stack events l q b (table.first local) in
          let row = row_here table g text stack events previous l q b local state in
          let c : Choice = check_at ok nok k1 in
          let done = acts-do stack events l q b false (table.first local) acts false local' s (c ∷ []) h in
          plays name state is s (shows stack events l q b local)
          ∙ ap (λ o. step_at table g o s k1) is
          ∙ ap (λ o. step_of (picked (state.rows (class_of table.class o) (class_of table.class s.current)) g s k1) s k1) behind
          ∙ ap (λ o. step_of (picked (state.rows (class_of table.class previous) (class_of table.class o)) g s k1) s k1) (sees text l q at)
          ∙ ap (λ xs. record { configuration = does xs s k1; choices = chooses xs s k1 []; answer = row.answer }) are
          ∙ ap (λ k. record { configuration = k; choices = chooses acts s k1 (c ∷ []); answer = row.answer }) done.0
          ∙ ap (λ cs. record { configuration = shows stack events l q b local'; choices = cs; answer = row.answer }) done.1

      comes : (bound : ℕ) (local : Local R D) (name : Name) → Comes (shows stack events l q b local) (Retry name) (turns table g text stack events inner bound l previous q b local name)
      comes zero local name = stays local name
      comes (suc bound) local name =
          let again = turns table g text stack events inner bound l previous q b in
          elim (named table.states name) as (λ x. named table.states name ≡ x → Comes (shows stack events l q b local) (Retry name) (turn_of table g text stack events inner again l previous q b local name x)) [
            | None ↦ λ is. stays local name
            | Some state ↦ λ is.
                let row = row_here table g text stack events previous l q b local state in
                let k = shows stack events l q b local in
                rows-on again (comes bound) local name row.acts row.answer
                (λ r local' did. leads-called g step text k name (shows_in stack events l q b r local') row.answer (step-is table g text step plays stack events l q b previous at behind state local name r local' is did))
                (λ ok nok more local' are did. step-checks state local name ok nok more local' is are did)
          ] refl

      -- and the bytes behind it
      turns-behind : (rest : Local R D → Name → Look R D)
          → ((local : Local R D) (name : Name) → let r = rest local name in Runs r.calls (held stack events (q + 1) Nothing false local) (Next name) (looked table g text stack events (q + 1) r) r.answer)
          → (k : Configuration R D) (s : State) (o : Turn R D) → Comes k s o
          → let r = turned_on table g text stack events inner rest o in Runs r.calls k s (looked table g text stack events q r) r.answer
      turns-behind rest further k s (reads_on local' name' n) here =
          let p = rest local' name' in
          let place : q + 1 + p.count ≡ q + suc p.count = omega arith in
          subst (λ i. Runs (n + p.calls) k s (held stack events i p.waiting p.ended p.local) p.answer) place
          (leads-on g step text n p.calls _ _ _ _ _ _ here (further local' name'))
      turns-behind rest further k s (ends r) here = here

    over-leads : (bound : ℕ) → LooksOver (look_over table g text stack events inner bound)
    over-leads bound [] previous q b local name at behind =
        turns-behind [] q b previous at behind (unfed_look table g text stack events)
        (λ local name.
        let place : q + 1 ≡ q + 1 + 0 = omega arith in
        subst (λ i. Runs 0 (held stack events (q + 1) Nothing false local) (Next name) (held stack events i Nothing false local) (Next name)) place
        (leads-nowhere g step text (held stack events (q + 1) Nothing false local) (Next name)))
        (shows stack events [] q b local) (Retry name) (turns table g text stack events inner bound [] previous q b local name) (comes [] q b previous at behind bound local name)
    over-leads bound (s ∷ ss) previous q b local name at behind =
        let next = drop-next text.seats q s ss at in
        let one : suc q ≡ q + 1 = omega arith in
        let byte : byte_of (seat_before text (q + 1)) ≡ Some s.byte = ap (λ i. byte_of (seat_before text i)) (sym one) ∙ ap byte_of (at-front text.seats q s ss at) in
        turns-behind (s ∷ ss) q b previous at behind (look_over table g text stack events inner bound ss (Some s.byte) (q + 1) false)
        (λ local name.
        let r = look_over table g text stack events inner bound ss (Some s.byte) (q + 1) false local name in
        let k = held stack events (q + 1) Nothing false local in
        let rest = over-leads bound ss (Some s.byte) (q + 1) false local name next byte in
        let none : 0 + r.calls ≡ r.calls = omega arith in
        subst (λ i. Runs i k (Next name) (looked table g text stack events (q + 1) r) r.answer) none
        (leads-on g step text 0 r.calls k (fed text k) _ (Next name) (Retry name) r.answer (leads-fed g step text k name)
        (subst (λ k. Runs r.calls k (Retry name) (looked table g text stack events (q + 1) r) r.answer) (sym (feeds stack events text ss (q + 1) false local next)) rest)))
        (shows stack events (s ∷ ss) q b local) (Retry name) (turns table g text stack events inner bound (s ∷ ss) previous q b local name)
        (comes (s ∷ ss) q b previous at behind bound local name)

  deep-leads : (depth bound : ℕ) → LooksOver (deep_scan table g text stack events depth bound)
  deep-leads zero bound l previous q b local name at behind = (scan-goes table g text step plays stack events bound l q b previous local name at behind).leads
  deep-leads (suc depth) bound l previous q b local name at behind =
      over-leads (deep_scan table g text stack events depth bound) (deep-leads depth bound) bound l previous q b local name at behind

pub deep-looks-are-scans : {W R D : Type 0} (table : Table W R D) (g : Given) (text : Text) (step : Sight → Configuration R D → Name → Step R D) → Plays table g step → DeepLooksAreScans table g text step
deep-looks-are-scans {W} {R} {D} table g text step plays depth bound k is name choices calls z h =
    let r = deep_look_from table g text depth bound k is name in
    subst (λ k'. EndsIn g step text calls k' choices (Retry name) z) (sym is.is)
    (deep-leads table g text step plays k.stack k.events depth bound (drop k.position text.seats) (byte_of (seat_before text k.position)) k.position is.mark k.local name refl refl choices calls z h)
