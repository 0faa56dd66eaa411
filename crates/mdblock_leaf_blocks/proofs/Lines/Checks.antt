-- Checks: where a state only begins a look, reading on from it is reading on from one of two states at the same place, by what the look says.
use Rattle.mdblock_leaf_blocks.proofs.Prelude.{Bool, List, Option, Some, [], ap, arith, cond, drop, false, refl, subst, suc, sym, true, ℕ, ◌++◌, ◌+◌, ◌∙◌, ◌∷◌, ◌≡◌, take-length, Seat, Name, State, Next, Nok, Ok, Retry, called-ends, fed-ends, settled-nok-ends, settled-ok-ends, check_at, with_local, Choice, Configuration, Local, Step, EndsIn, Reading, restored, Sight, byte_of, current_of, seat_before, sight, Given, Text, Check, Byte, Nothing, FlowByte, flow_byte, flow, unchanged, IsReadAs, Mark, Leads, feeds, scan-goes, sees, Look, first_byte, held, looked, scan, waits_at, Act, Rows, StateRows, choose, chooses, class_of, does, named, picked, row, step_at, step_of, table_step, write}

-- writes, one after another, as acts; and what they leave
abbrev pub write_all : List (Configuration Unit Unit → Local Unit Unit) → List (Act Unit Unit)
write_all [] = []
write_all (f ∷ fs) = write f ∷ write_all fs

abbrev pub written : List (Configuration Unit Unit → Local Unit Unit) → Configuration Unit Unit → Local Unit Unit
written [] k = k.local
written (f ∷ fs) k = written fs (with_local k (f k))

module _ (g : Given) (t : Text) (k : Configuration Unit Unit) (s : Seat) (ss : List Seat) (at : drop k.position t.seats ≡ s ∷ ss) (waits : k.waiting ≡ Byte) where
  abbrev step : Sight → Configuration Unit Unit → Name → Step Unit Unit
  step = table_step flow g

  -- the look from here
  abbrev pub look_here : Local Unit Unit → Name → Look Unit Unit
  look_here local name = scan flow g t k.stack k.events 2 (s ∷ ss) (byte_of (seat_before t k.position)) k.position k.ended local name

  -- this place, with what states share as it is then
  abbrev pub here_with : Local Unit Unit → Configuration Unit Unit
  here_with local = with_local k local

  still-waits : (local : Local Unit Unit) → held k.stack k.events k.position Byte k.ended local ≡ here_with local
  still-waits local = ap (λ w. held k.stack k.events k.position w k.ended local) (sym waits)

  -- once the look is over, nothing waits; and the byte is fed again
  back : (calls : ℕ) (r : Look Unit Unit) (name : Name) (cs : List Choice) (z : Reading Unit Unit)
      → EndsIn g step t calls (here_with r.local) cs (Retry name) z
      → EndsIn g step t calls (restored (check_at (Next name) (Next name) k).saved (looked flow g t k.stack k.events k.position r)) cs (Next name) z
  back calls r name cs z h =
      let gone = held k.stack k.events k.position Nothing k.ended r.local in
      let same : gone ≡ restored (check_at (Next name) (Next name) k).saved (looked flow g t k.stack k.events k.position r) =
      ap (λ es. record { position = k.position; waiting = Nothing; ended = k.ended; events = es; stack = k.stack; local = r.local }) (sym (take-length k.events)) in
      subst (λ q. EndsIn g step t calls q cs (Next name) z) same
      ((fed-ends g step t calls gone cs name z).0
      (subst (λ q. EndsIn g step t calls q cs (Retry name) z) (sym (feeds k.stack k.events t (s ∷ ss) k.position k.ended r.local at ∙ still-waits r.local)) h))

  -- a choice is settled by either answer
  settles : (v : Bool) (calls : ℕ) (q : Configuration Unit Unit) (ok nok : Name) (cs : List Choice) (z : Reading Unit Unit) → let name = cond v ok nok in
      EndsIn g step t calls (restored (check_at (Next name) (Next name) k).saved q) cs (Next name) z → EndsIn g step t calls q (check_at (Next ok) (Next nok) k ∷ cs) (cond v Ok Nok) z
  settles true calls q ok nok cs z = (settled-ok-ends g step t calls q (check_at (Next ok) (Next nok) k) cs z).0
  settles false calls q ok nok cs z = (settled-nok-ends g step t calls q (check_at (Next ok) (Next nok) k) cs z).0

  module _ (name look ok nok : Name) (local : Local Unit Unit) (is : step (sight g t k) k name ≡ record { configuration = here_with local; choices = check_at (Next ok) (Next nok) k ∷ []; answer = Retry look }) where
    -- the call, and the look
    to-end : (cs : List Choice) (calls : ℕ) (z : Reading Unit Unit) → let r = look_here local look in
        EndsIn g step t (calls + 1 + r.calls) (looked flow g t k.stack k.events k.position r) (check_at (Next ok) (Next nok) k ∷ cs) r.answer z
        → EndsIn g step t calls k cs (Retry name) z
    to-end cs calls z h =
        let r = look_here local look in
        let goes = scan-goes flow g t step (λ name state is s k. refl) k.stack k.events 2 (s ∷ ss) k.position k.ended (byte_of (seat_before t k.position)) local look at refl in
        (called-ends g step t calls k cs name z).0
        (subst (λ (q : Step Unit Unit). EndsIn g step t (calls + 1) q.configuration (q.choices ++ cs) q.answer z) (sym is)
        (subst (λ q. EndsIn g step t (calls + 1) q (check_at (Next ok) (Next nok) k ∷ cs) (Retry look) z) (still-waits local)
        (goes.leads (check_at (Next ok) (Next nok) k ∷ cs) (calls + 1) z h)))

    -- so what the look answers says which of the two is next
    pub step-checks : (v : Bool) → let r = look_here local look in r.answer ≡ cond v Ok Nok → Leads g step t (suc r.calls) k (Retry name) (here_with r.local) (Retry (cond v ok nok))
    step-checks v says cs calls z h =
        let r = look_here local look in
        let n = calls + 1 + r.calls in
        let e : calls + suc r.calls ≡ n = omega arith in
        to-end cs calls z
        (subst (λ a. EndsIn g step t n (looked flow g t k.stack k.events k.position r) (check_at (Next ok) (Next nok) k ∷ cs) a z) (sym says)
        (settles v n (looked flow g t k.stack k.events k.position r) ok nok cs z
        (back n r (cond v ok nok) cs z (subst (λ n. EndsIn g step t n (here_with r.local) cs (Retry (cond v ok nok)) z) e h))))

-- so many calls lead on, and then more
pub leads-on : (g : Given) (t : Text) (n m : ℕ) (k k1 k2 : Configuration Unit Unit) (s s1 s2 : State) → Leads g (table_step flow g) t n k s k1 s1 → Leads g (table_step flow g) t m k1 s1 k2 s2
    → Leads g (table_step flow g) t (n + m) k s k2 s2
leads-on g t n m k k1 k2 s s1 s2 one two cs calls z h =
    let sum : calls + (n + m) ≡ calls + n + m = omega arith in
    one cs calls z (two cs (calls + n) z (subst (λ i. EndsIn g (table_step flow g) t i k2 cs s2 z) sum h))

-- what writes do to a configuration; they make no choice
writes-do : (fs : List (Configuration Unit Unit → Local Unit Unit)) (seen : Sight) (k : Configuration Unit Unit) (cs : List Choice)
    → (does (write_all fs) seen k ≡ with_local k (written fs k)) × (chooses (write_all fs) seen k cs ≡ cs)
writes-do [] seen k cs = (refl, refl)
writes-do (f ∷ fs) seen k cs = writes-do fs seen (with_local k (f k)) cs

-- what leads to a state at the same place, with other things that states share, is read as that state is
pub read-behind : (g : Given) (t : Text) (kept : (before after : Local Unit Unit) → Type 0) (k : Configuration Unit Unit) (name to_name : Name) (local : Local Unit Unit) (n : ℕ)
    → Leads g (table_step flow g) t n k (Retry name) (with_local k local) (Retry to_name) → ((after : Local Unit Unit) → kept local after → kept k.local after)
    → (line rest : List Seat) (marks : List Mark) (to : State) → IsReadAs g t kept (with_local k local) to_name line rest marks to → IsReadAs g t kept k name line rest marks to
read-behind g t kept k name to_name local n leads keeps line rest marks to h = record {
  after = h.after;
  calls = n + h.calls;
  events_are = h.events_are;
  position = h.position;
  waiting = h.waiting;
  local = keeps h.after.local h.local;
  leads = leads-on g t n h.calls k (with_local k local) h.after (Retry name) (Retry to_name) to leads (λ choices before z e. h.leads choices before z e);
}

-- what waits before these bytes, as a class
pub class-here : (g : Given) (t : Text) (k : Configuration Unit Unit) (l : List Seat) → drop k.position t.seats ≡ l → k.waiting ≡ waits_at l
    → class_of flow_byte (sight g t k).current ≡ class_of flow_byte (first_byte l)
class-here g t k l at waits = ap (λ q. class_of flow_byte (current_of t k.position q)) waits ∙ ap (class_of flow_byte) (sees t l k.position at)

-- a call makes the step of the row that its state has for what waits
pub called-row : (g : Given) (t : Text) (k : Configuration Unit Unit) (name : Name) (state : StateRows FlowByte Unit Unit) → named flow.states name ≡ Some state
    → (c : Option FlowByte) → class_of flow_byte (sight g t k).current ≡ c → (rows : Rows Unit Unit) → ((previous : Option FlowByte) → state.rows previous c ≡ rows)
    → table_step flow g (sight g t k) k name ≡ step_of (picked rows g (sight g t k) (with_local k (unchanged k.local))) (sight g t k) (with_local k (unchanged k.local))
called-row g t k name state is c here rows row_is =
    let seen = sight g t k in
    let k1 = with_local k (unchanged k.local) in
    ap (λ o. step_at flow g o seen k1) is
    ∙ ap (λ c. step_of (picked (state.rows (class_of flow_byte seen.previous) c) g seen k1) seen k1) here
    ∙ ap (λ rows. step_of (picked rows g seen k1) seen k1) (row_is (class_of flow_byte seen.previous))

-- A state whose row at this byte makes a check and begins its look, maybe behind writes. The row is given for the byte's class
module _ (g : Given) (t : Text) (k : Configuration Unit Unit) (s : Seat) (ss : List Seat) (at : drop k.position t.seats ≡ s ∷ ss) (waits : k.waiting ≡ Byte)
    (name look ok nok : Name) (state : StateRows FlowByte Unit Unit) (is_state : named flow.states name ≡ Some state) (w : FlowByte) (of_class : flow_byte s.byte ≡ w)
    (fs : List (Configuration Unit Unit → Local Unit Unit)) (row_is : (previous : Option FlowByte) → state.rows previous (Some w) ≡ row (choose Check (Next ok) (Next nok) ∷ write_all fs) (Retry look)) where
  -- what states share when the look begins, and the look
  abbrev pub begun : Local Unit Unit
  begun = written fs (with_local k (unchanged k.local))

  abbrev pub looks : Look Unit Unit
  looks = look_here g t k s ss at waits begun look

  checks : table_step flow g (sight g t k) k name ≡ record { configuration = with_local k begun; choices = check_at (Next ok) (Next nok) k ∷ []; answer = Retry look }
  checks =
      let seen = sight g t k in
      let k1 = with_local k (unchanged k.local) in
      let here : class_of flow_byte seen.current ≡ Some w = class-here g t k (s ∷ ss) at waits ∙ ap Some of_class in
      let did = writes-do fs seen k1 (check_at (Next ok) (Next nok) k ∷ []) in
      called-row g t k name state is_state (Some w) here (row (choose Check (Next ok) (Next nok) ∷ write_all fs) (Retry look)) row_is
      ∙ ap (λ q. record { configuration = q; choices = chooses (write_all fs) seen k1 (check_at (Next ok) (Next nok) k ∷ []); answer = Retry look }) did.0
      ∙ ap (λ cs. record { configuration = with_local k begun; choices = cs; answer = Retry look }) did.1

  -- Reading on from it is reading on from one state or the other, by what its look answers, at the same place, with what the look wrote
  pub step-checked : (v : Bool) → looks.answer ≡ cond v Ok Nok → Leads g (table_step flow g) t (suc looks.calls) k (Retry name) (with_local k looks.local) (Retry (cond v ok nok))
  step-checked v says = step-checks g t k s ss at waits name look ok nok begun checks v says

  -- and so it is read as that state is
  pub read-checked : (v : Bool) → looks.answer ≡ cond v Ok Nok → (kept : (before after : Local Unit Unit) → Type 0) → ((after : Local Unit Unit) → kept looks.local after → kept k.local after)
      → (line rest : List Seat) (marks : List Mark) (to : State) → IsReadAs g t kept (with_local k looks.local) (cond v ok nok) line rest marks to → IsReadAs g t kept k name line rest marks to
  read-checked v says kept keeps line rest marks to h = read-behind g t kept k name (cond v ok nok) looks.local (suc looks.calls) (step-checked v says) keeps line rest marks to h
