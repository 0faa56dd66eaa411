-- The reading of a stretch is what `stretch` says.
use Rattle.std.proofs.Common.{◌≡◌, ℕ, zero, suc, ◌+◌, ◌∷◌, List, [], Bool, true, false, cond, Option, Some, None, drop, length, refl, sym, ap, ◌∙◌, subst, arith, lt-ltb, le-ltb}
use Rattle.std.proofs.lemmas.Option.{slice_get_within}
use Rattle.markdown_base.proofs.Common.{drop-next}
use Rattle.markdown_base.specs.declared.event.Point.{Point}
use Rattle.markdown_base.specs.declared.state.Name.{Name}
use Rattle.markdown_base.specs.declared.state.State.{State}
use Rattle.markdown_base.specs.declared.state.State.TheVariants.{Next, Retry, Ok, Nok, Error}
use Rattle.markdown_base.specs.Places.{shown}
use Rattle.markdown_base.specs.Virtual.{Seat}
use Rattle.markdown_tokenizer.specs.declared.waiting.Waits.TheVariants.{Byte, End}
use Rattle.markdown_tokenizer.specs.Calls.{with_local}
use Rattle.markdown_tokenizer.specs.Configuration.{Configuration, Choice, Step}
use Rattle.markdown_tokenizer.specs.Reading.{Reading, fed}
use Rattle.markdown_tokenizer.specs.Sight.{Sight, sight, sight_in, byte_of, end_or, end_place, point_or, seat_before}
use Rattle.markdown_tokenizer.specs.Text.{Given, Text}
use Rattle.mdconstructs_tables.proofs.Looks.Left.{at-front, past-end}
use Rattle.mdconstructs_tables.proofs.Looks.Scans.{Goes, goes-nowhere, goes-on, goes-fed, goes-called}
use Rattle.mdconstructs_tables.specs.Looks.{waits_at, Plays}
use Rattle.mdconstructs_tables.specs.Rows.{Act, enters, exit, consume, links, writes, choose, note, exit_noted, enter_noted, StateRows, Table, done, does, chooses, named, past, row_at, step_at}
use Rattle.mdconstructs_tables.specs.Stretches.{sight_before, reads_byte, Halt, to_come, over, one_call_more, row_comes_to, fed_before, ahead, call_comes_to, halt, stretch, StretchesAreRead}

module _ {R D : Type 0} where
  -- what acts leave, by whether they read the byte
  abbrev Left : Bool → Configuration R D → Configuration R D → Type 0
  Left true k k' = k'.position ≡ k.position + 1
  Left false k k' = (k'.position ≡ k.position) × (k'.waiting ≡ k.waiting)

  -- behind the byte they leave the position
  past-byte : (acts : List (Act R D)) (r : Bool) (s : Sight) (k : Configuration R D) (cs : List Choice) → reads_byte true acts ≡ Some r
      → (r ≡ true) × ((does acts s k).position ≡ k.position) × (chooses acts s k cs ≡ cs)
  past-byte [] true s k cs h = (refl, refl, refl)
  past-byte [] false s k cs h = absurd (cc)
  past-byte (enters name link ∷ acts) r s k cs h = past-byte acts r s (done (enters name link) s k) cs h
  past-byte (exit name ∷ acts) r s k cs h = past-byte acts r s (done (exit name) s k) cs h
  past-byte (consume ∷ acts) r s k cs h = absurd (cc)
  past-byte (links p n ∷ acts) r s k cs h = past-byte acts r s (done (links p n) s k) cs h
  past-byte (writes f ∷ acts) r s k cs h = past-byte acts r s (done (writes f) s k) cs h
  past-byte (choose kind ok nok ∷ acts) r s k cs h = absurd (cc)
  past-byte (note ∷ acts) r s k cs h = past-byte acts r s (done note s k) cs h
  past-byte (exit_noted name ∷ acts) r s k cs h = past-byte acts r s (done (exit_noted name) s k) cs h
  past-byte (enter_noted name ∷ acts) r s k cs h = past-byte acts r s (done (enter_noted name) s k) cs h

  acts-leave : (acts : List (Act R D)) (r : Bool) (s : Sight) (k : Configuration R D) (cs : List Choice) → reads_byte false acts ≡ Some r → (chooses acts s k cs ≡ cs) × Left r k (does acts s k)
  acts-leave [] false s k cs h = (refl, (refl, refl))
  acts-leave [] true s k cs h = absurd (cc)
  acts-leave (enters name link ∷ acts) true s k cs h = acts-leave acts true s (done (enters name link) s k) cs h
  acts-leave (enters name link ∷ acts) false s k cs h = acts-leave acts false s (done (enters name link) s k) cs h
  acts-leave (exit name ∷ acts) true s k cs h = acts-leave acts true s (done (exit name) s k) cs h
  acts-leave (exit name ∷ acts) false s k cs h = acts-leave acts false s (done (exit name) s k) cs h
  acts-leave (consume ∷ acts) r s k cs h =
      let (read, position, none) = past-byte acts r (past s) (done consume s k) cs h in (none, subst (λ r. Left r k (does acts (past s) (done consume s k))) (sym read) position)
  acts-leave (links p n ∷ acts) true s k cs h = acts-leave acts true s (done (links p n) s k) cs h
  acts-leave (links p n ∷ acts) false s k cs h = acts-leave acts false s (done (links p n) s k) cs h
  acts-leave (writes f ∷ acts) true s k cs h = acts-leave acts true s (done (writes f) s k) cs h
  acts-leave (writes f ∷ acts) false s k cs h = acts-leave acts false s (done (writes f) s k) cs h
  acts-leave (choose kind ok nok ∷ acts) r s k cs h = absurd (cc)
  acts-leave (note ∷ acts) true s k cs h = acts-leave acts true s (done note s k) cs h
  acts-leave (note ∷ acts) false s k cs h = acts-leave acts false s (done note s k) cs h
  acts-leave (exit_noted name ∷ acts) true s k cs h = acts-leave acts true s (done (exit_noted name) s k) cs h
  acts-leave (exit_noted name ∷ acts) false s k cs h = acts-leave acts false s (done (exit_noted name) s k) cs h
  acts-leave (enter_noted name ∷ acts) true s k cs h = acts-leave acts true s (done (enter_noted name) s k) cs h
  acts-leave (enter_noted name ∷ acts) false s k cs h = acts-leave acts false s (done (enter_noted name) s k) cs h

  -- what is fed
  fed-is : (text : Text) (l : List Seat) (k : Configuration R D) → drop k.position text.seats ≡ l → fed text k ≡ fed_before l k
  fed-is text [] k at = ap (λ t. cond t (record k { waiting = Byte }) (record k { waiting = End; ended = true })) (le-ltb k.position (length text.seats) (past-end text.seats k.position at))
  fed-is text (s ∷ ss) k at =
      ap (λ t. cond t (record k { waiting = Byte }) (record k { waiting = End; ended = true })) (lt-ltb k.position (length text.seats) (slice_get_within text.seats k.position s (at-front text.seats k.position s ss at)))

  fed-waits : (l : List Seat) (k : Configuration R D) → ((fed_before l k).position ≡ k.position) × ((fed_before l k).waiting ≡ waits_at l)
  fed-waits [] k = (refl, refl)
  fed-waits (s ∷ ss) k = (refl, refl)

-- what is seen before the bytes that are left
pub sees-at : (g : Given) (text : Text) (l : List Seat) (q : ℕ) → drop q text.seats ≡ l → sight_in g text q (waits_at l) ≡ sight_before g text.end (end_place text q) (byte_of (seat_before text q)) l
sees-at g text [] q at = refl
sees-at g text (s ∷ ss) q at =
    ap
    (λ (o : Option Seat). record {
      previous = byte_of (seat_before text q);
      current = byte_of o;
      point = point_or text.end o;
      enter_place = shown g.bytes (point_or text.end o);
      exit_place = shown g.bytes (end_place text q);
      next = shown g.bytes (end_or text.end o);
    })
    (at-front text.seats q s ss at)

module _ {W R D : Type 0} (table : Table W R D) (g : Given) (text : Text) (step : Sight → Configuration R D → Name → Step R D) (plays : Plays table g step) (until : Name → Bool) where
  abbrev Runs : (n : ℕ) (k : Configuration R D) (s : State) (k' : Configuration R D) (s' : State) → Type 0
  Runs n k s k' s' = Goes g step text n k s k' s'

  module _ (l : List Seat) (q : ℕ) (at : drop q text.seats ≡ l) (behind : Point) (previous : Option ℕ) (behind_is : end_place text q ≡ behind) (previous_is : byte_of (seat_before text q) ≡ previous) where
    abbrev seen : Sight
    seen = sight_before g text.end behind previous l

    -- the first of these bytes waits, or the end
    record IsHere (k : Configuration R D) : Type 0 where
      position : k.position ≡ q
      waiting : k.waiting ≡ waits_at l

    sees : (k : Configuration R D) → IsHere k → sight g text k ≡ seen
    sees k here =
        ap (λ p. sight_in g text p k.waiting) here.position ∙ ap (sight_in g text q) here.waiting ∙ sees-at g text l q at
        ∙ ap (λ p. sight_before g text.end p (byte_of (seat_before text q)) l) behind_is ∙ ap (λ b. sight_before g text.end behind b l) previous_is

    abbrev Comes : Configuration R D → Name → Halt R D → Type 0
    Comes k name (to_come k' name' n) = Runs n k (Retry name) k' (Next name') × (k'.position ≡ q + 1)
    Comes k name (over k' a n) = Runs n k (Retry name) k' a

    -- the step of a state whose row makes no choice
    step-is : (state : StateRows W R D) (k : Configuration R D) (name : Name) (r : Bool) → IsHere k → named table.states name ≡ Some state
        → let k1 = with_local k (table.first k.local) in
        let row = row_at table.class state g seen k1 in
        reads_byte false row.acts ≡ Some r
        → (step (sight g text k) k name ≡ record { configuration = does row.acts seen k1; choices = []; answer = row.answer }) × Left r k (does row.acts seen k1)
    step-is state k name r here is h =
        let k1 = with_local k (table.first k.local) in
        let row = row_at table.class state g seen k1 in
        let (none, left) = acts-leave row.acts r seen k1 [] h in (
          ap (λ s. step s k name) (sees k here) ∙ plays name state is seen k ∙ ap (λ o. step_at table g o seen k1) is
              ∙ ap (λ cs. record { configuration = does row.acts seen k1; choices = cs; answer = row.answer }) none,
          same-left r k k1 (does row.acts seen k1) refl refl left,
        )
      where
        same-left : (r : Bool) (k k1 k' : Configuration R D) → k1.position ≡ k.position → k1.waiting ≡ k.waiting → Left r k1 k' → Left r k k'
        same-left true k k1 k' position waiting left = left ∙ ap (λ p. p + 1) position
        same-left false k k1 k' position waiting left = (left.0 ∙ position, left.1 ∙ waiting)

    stays : (k : Configuration R D) (name : Name) → Comes k name (over k (Retry name) 0)
    stays k name = goes-nowhere g step text k (Retry name)

    again-once : (k : Configuration R D) (name : Name) (k' : Configuration R D) (name' : Name) → Runs 1 k (Retry name) k' (Retry name') → (h : Halt R D) → Comes k' name' h → Comes k name (one_call_more until h)
    again-once k name k' name' once (to_come k2 name2 n) more =
        let e : 1 + n ≡ suc n = omega arith in (subst (λ i. Runs i k (Retry name) k2 (Next name2)) e (goes-on g step text 1 n _ _ _ _ _ _ once more.0), more.1)
    again-once k name k' name' once (over k2 a n) more = let e : 1 + n ≡ suc n = omega arith in subst (λ i. Runs i k (Retry name) k2 a) e (goes-on g step text 1 n _ _ _ _ _ _ once more)

    -- what it answers
    answers : (again : Configuration R D → Name → Halt R D) → ((k : Configuration R D) (name : Name) → IsHere k → Comes k name (again k name)) → (k : Configuration R D) (name : Name) → IsHere k
        → (x : Option Bool) (k' : Configuration R D) (a : State) → ((r : Bool) → x ≡ Some r → Runs 1 k (Retry name) k' a × Left r k k')
        → Comes k name (row_comes_to until again (over k (Retry name) 0) x k' a)
    answers again goes k name here (Some true) k' (Next name') once =
        let (one, left) = once true refl in
        elim (until name') as (λ t. Comes k name (cond t (over k' (Next name') 1) (to_come k' name' 1))) [ true ↦ one | false ↦ (one, left ∙ ap (λ p. p + 1) here.position) ]
    answers again goes k name here (Some false) k' (Retry name') once =
        let (one, left) = once false refl in
        elim (until name') as (λ t. Comes k name (cond t (over k' (Retry name') 1) (one_call_more until (again k' name')))) [
          | true ↦ one
          | false ↦ again-once k name k' name' one (again k' name') (goes k' name' (record { position = left.0 ∙ here.position; waiting = left.1 ∙ here.waiting }))
        ]
    answers again goes k name here (Some true) k' Ok once = (once true refl).0
    answers again goes k name here (Some false) k' Ok once = (once false refl).0
    answers again goes k name here (Some true) k' Nok once = (once true refl).0
    answers again goes k name here (Some false) k' Nok once = (once false refl).0
    answers again goes k name here (Some false) k' (Next name') once = stays k name
    answers again goes k name here (Some true) k' (Retry name') once = stays k name
    answers again goes k name here (Some true) k' (Error m) once = stays k name
    answers again goes k name here (Some false) k' (Error m) once = stays k name
    answers again goes k name here None k' (Next n) once = stays k name
    answers again goes k name here None k' (Retry n) once = stays k name
    answers again goes k name here None k' Ok once = stays k name
    answers again goes k name here None k' Nok once = stays k name
    answers again goes k name here None k' (Error m) once = stays k name

    comes : (bound : ℕ) (k : Configuration R D) (name : Name) → IsHere k → Comes k name (halt table g text.end until bound seen k name)
    comes zero k name here = stays k name
    comes (suc bound) k name here =
        let again = halt table g text.end until bound seen in
        elim (named table.states name) as (λ x. named table.states name ≡ x → Comes k name (call_comes_to table g text.end until again seen k name x)) [
          | None ↦ λ is. stays k name
          | Some state ↦ λ is.
              let k1 = with_local k (table.first k.local) in
              let row = row_at table.class state g seen k1 in
              answers again (comes bound) k name here (reads_byte false row.acts) (does row.acts seen k1) row.answer
              (λ r did. let (one, left) = step-is state k name r here is did in (goes-called g step text k name (does row.acts seen k1) row.answer one, left))
        ] refl

    -- and what comes behind the byte
    goes-ahead : (rest : Configuration R D → Name → Reading R D)
        → ((k : Configuration R D) (name : Name) → k.position ≡ q + 1 → let r = rest k name in Runs r.calls k (Next name) r.configuration r.answer)
        → (k : Configuration R D) (name : Name) (h : Halt R D) → Comes k name h → let r = ahead rest h in Runs r.calls k (Retry name) r.configuration r.answer
    goes-ahead rest further k name (to_come k' name' n) here = goes-on g step text n (rest k' name').calls _ _ _ _ _ _ here.0 (further k' name' here.1)
    goes-ahead rest further k name (over k' a n) here = here

  -- a stretch is read
  stretch-goes : (bound : ℕ) (l : List Seat) (q : ℕ) (behind : Point) (previous : Option ℕ) (k : Configuration R D) (name : Name) → drop q text.seats ≡ l
      → end_place text q ≡ behind → byte_of (seat_before text q) ≡ previous → k.position ≡ q → k.waiting ≡ waits_at l
      → let r = stretch table g text.end until bound behind previous l k name in Runs r.calls k (Retry name) r.configuration r.answer
  stretch-goes bound [] q behind previous k name at behind_is previous_is position waiting =
      goes-ahead [] q at behind previous behind_is previous_is (λ k name. record { configuration = k; answer = Next name; calls = 0 }) (λ k name p. goes-nowhere g step text k (Next name))
      k name (halt table g text.end until bound (sight_before g text.end behind previous []) k name)
      (comes [] q at behind previous behind_is previous_is bound k name (record { position = position; waiting = waiting }))
  stretch-goes bound (s ∷ ss) q behind previous k name at behind_is previous_is position waiting =
      let next = drop-next text.seats q s ss at in
      let one : suc q ≡ q + 1 = omega arith in
      let seat : seat_before text (q + 1) ≡ Some s = ap (seat_before text) (sym one) ∙ at-front text.seats q s ss at in
      goes-ahead (s ∷ ss) q at behind previous behind_is previous_is (λ k name. stretch table g text.end until bound s.end (Some s.byte) ss (fed_before ss k) name)
      (λ k name p.
      let k' = fed_before ss k in
      let r = stretch table g text.end until bound s.end (Some s.byte) ss k' name in
      let there : drop k.position text.seats ≡ ss = ap (λ i. drop i text.seats) p ∙ next in
      let (same, waits) = fed-waits ss k in
      goes-fed g step text r.calls k name r.configuration r.answer
      (subst (λ k. Runs r.calls k (Retry name) r.configuration r.answer) (sym (fed-is text ss k there))
      (stretch-goes bound ss (q + 1) s.end (Some s.byte) k' name next (ap (end_or text.start) seat) (ap byte_of seat) (same ∙ p) waits)))
      k name (halt table g text.end until bound (sight_before g text.end behind previous (s ∷ ss)) k name)
      (comes (s ∷ ss) q at behind previous behind_is previous_is bound k name (record { position = position; waiting = waiting }))

pub stretches-are-read : {W R D : Type 0} (table : Table W R D) (g : Given) (text : Text) (step : Sight → Configuration R D → Name → Step R D) → Plays table g step → StretchesAreRead table g text step
stretches-are-read {R = R} {D = D} table g text step plays =
    let goes = λ (until : Name → Bool) (bound : ℕ) (k : Configuration R D) (name : Name) (waits : k.waiting ≡ waits_at (drop k.position text.seats)).
    stretch-goes table g text step plays until bound (drop k.position text.seats) k.position (end_place text k.position) (byte_of (seat_before text k.position)) k name refl refl refl refl waits in
    record {
      leads = λ until bound k name waits choices calls z h. (goes until bound k name waits).leads choices calls z h;
      reads = λ until bound k name waits more. (goes until bound k name waits).reads more;
    }
