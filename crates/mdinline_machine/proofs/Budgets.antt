-- A budget of calls, for a machine that reads items of constructs: what was spent and what is still to be paid is within it. Each construct has a
-- potential, which pays for looks that fail; and each item is paid by its bytes.
use Rattle.mdinline_machine.proofs.Prelude.{◌≡◌, ℕ, zero, suc, ◌+◌, ◌<◌, ◌≤◌, List, [], ◌∷◌, ◌++◌, Bool, true, Option, Some, None, refl, sym, ap, ◌∙◌, subst, arith, length, take, drop, drop-drop, Constructs, Event, Name, State, Next, Retry, Seat, Byte, Nothing, Choice, Configuration, Local, Given, Text, counts, Between, Construct, Found, first_there, grammars_of, if_on, item_length, bytes_of, TextByte, text_byte, item_events, or_else, or-none, AddsFrom, DecidesTo, IsKept, Knowledge, Reads, outer, AddsItemIn, DecidesIn, ReadsIn, Remembered, after-call, remembered, spent, Leads, Plays, between_items}

-- how many calls a construct may still cost, by what is remembered and the virtual bytes that are left
abbrev pub Potential : Type 0
Potential = Remembered → List Seat → ℕ

-- What is paid, and what is known, by a memory of the items that were read. `potentials`: those of the constructs, the last of the list first. `toll`:
-- what a try of each costs beside, by the virtual bytes that are left. `fixed`: what these pay in any case. `after`: the memory behind an item. `sound`: what
-- is known before an item, at a place, by the events so far and what is remembered; and `trying`: where these constructs may still be tried. `plain`: items
-- that leave it so. `other` and `item`: what is there if no construct is, and what is there
pub record Prices (M : Type 0) : Type 1 where
  pub potentials : List Potential
  pub toll : List Seat → ℕ → ℕ
  pub fixed : List Seat → ℕ
  pub after : M → Found → M
  pub sound : M → ℕ → List Event → Remembered → Type 0
  pub trying : M → List (Construct Found TextByte Unit Unit) → ℕ → List Event → Remembered → Type 0
  pub plain : Found → Type 0
  pub other : M → List ℕ → Found
  pub item : M → List ℕ → Found

-- What is known is kept where a construct is passed over, as nothing of it is there; it holds before an item whatever was tried; and it holds behind a plain
-- item, if what is remembered is as it was
pub record IsSound {M : Type 0} (g : Given) (text : Text) (x : Prices M) : Type 0 where
  pub passes : (m : M) (c : Construct Found TextByte Unit Unit) (cs : List (Construct Found TextByte Unit Unit)) (p : ℕ) (events : List Event) (r : Remembered) (s : Seat) (ss : List Seat) → drop p text.seats ≡ s ∷ ss
      → ((item : Found) → or_else (if_on (c.grammar.on g.options.constructs) (c.grammar.front (bytes_of (s ∷ ss)))) item ≡ item) → x.trying m (c ∷ cs) p events r → x.trying m cs p events r
  pub holds : (m : M) (cs : List (Construct Found TextByte Unit Unit)) (p : ℕ) (events : List Event) (r : Remembered) → x.trying m cs p events r → x.sound m p events r
  pub later : (m : M) (p : ℕ) (events : List Event) (r : Remembered) (s : Seat) (ss : List Seat) (item : Found) → drop p text.seats ≡ s ∷ ss → x.plain item → x.sound m p events r
      → let size = item_length item in x.sound (x.after m item) (p + size) (events ++ item_events g.bytes (item, take size (s ∷ ss))) r

-- ---- potentials

-- all of them
abbrev pub total : List Potential → Remembered → List Seat → ℕ
total [] r l = 0
total (v ∷ vs) r l = v r l + total vs r l

-- a try of each
abbrev pub tolls : List Potential → (toll : ℕ → ℕ) → ℕ
tolls [] t = 0
tolls (v ∷ vs) t = t 0 + tolls vs (λ n. t (suc n))

-- What is to be paid where so many constructs may still be tried at a byte: the potentials of the others are those behind it
abbrev pub to_try : List Potential → (toll : ℕ → ℕ) → ℕ → Remembered → List Seat → ℕ
to_try vs t zero r l = total vs r (drop 1 l)
to_try [] t (suc n) r l = t 0 + to_try [] (λ n. t (suc n)) n r l
to_try (v ∷ vs) t (suc n) r l = t 0 + (v r l + to_try vs (λ n. t (suc n)) n r l)

-- a byte less costs no more
abbrev pub GoDown : List Potential → Type 0
GoDown [] = Unit {0}
GoDown (v ∷ vs) = ((r : Remembered) (s : Seat) (ss : List Seat) → v r ss ≤ v r (s ∷ ss)) × GoDown vs

pub total-down : (vs : List Potential) → GoDown vs → (r : Remembered) (s : Seat) (ss : List Seat) → total vs r ss ≤ total vs r (s ∷ ss)
total-down [] down r s ss = omega arith
total-down (v ∷ vs) down r s ss = omega (arith, down.0 r s ss, total-down vs down.1 r s ss)

pub total-drop : (vs : List Potential) → GoDown vs → (n : ℕ) (r : Remembered) (l : List Seat) → total vs r (drop n l) ≤ total vs r l
total-drop vs down zero r l = omega arith
total-drop vs down (suc n) r [] = omega arith
total-drop vs down (suc n) r (s ∷ ss) = omega (arith, total-drop vs down n r ss, total-down vs down r s ss)

-- behind an item they are no more than behind a byte
pub total-behind : (vs : List Potential) → GoDown vs → (n : ℕ) (r : Remembered) (s : Seat) (ss : List Seat) → 0 < n → total vs r (drop n (s ∷ ss)) ≤ total vs r ss
total-behind vs down zero r s ss h = absurd (omega (arith, h))
total-behind vs down (suc n) r s ss h = total-drop vs down n r ss

-- a construct less to be tried costs no more
pub try-fewer : (vs : List Potential) → GoDown vs → (t : ℕ → ℕ) (n : ℕ) (r : Remembered) (s : Seat) (ss : List Seat) → to_try vs t n r (s ∷ ss) ≤ to_try vs t (suc n) r (s ∷ ss)
try-fewer [] down t zero r s ss = omega arith
try-fewer [] down t (suc n) r s ss = omega (arith, try-fewer [] down (λ n. t (suc n)) n r s ss)
try-fewer (v ∷ vs) down t zero r s ss = omega (arith, down.0 r s ss)
try-fewer (v ∷ vs) down t (suc n) r s ss = omega (arith, try-fewer vs down.1 (λ n. t (suc n)) n r s ss)

-- where none is left, they are those behind the byte
pub try-none : (vs : List Potential) → GoDown vs → (t : ℕ → ℕ) (n : ℕ) (r : Remembered) (s : Seat) (ss : List Seat) → total vs r ss ≤ to_try vs t n r (s ∷ ss)
try-none vs down t zero r s ss = omega arith
try-none vs down t (suc n) r s ss = omega (arith, try-none vs down t n r s ss, try-fewer vs down t n r s ss)

-- the potential of a construct, by how many are behind it in the list
abbrev pub at_index : List Potential → ℕ → Potential
at_index [] n r l = 0
at_index (v ∷ vs) zero r l = v r l
at_index (v ∷ vs) (suc n) r l = at_index vs n r l

-- once a construct more was tried, its potential is that behind the byte
pub try-one : (vs : List Potential) (t : ℕ → ℕ) (n : ℕ) (r : Remembered) (l : List Seat) → to_try vs t n r l + t n + at_index vs n r l ≡ to_try vs t (suc n) r l + at_index vs n r (drop 1 l)
try-one [] t zero r l = omega arith
try-one [] t (suc n) r l = omega (arith, try-one [] (λ n. t (suc n)) n r l)
try-one (v ∷ vs) t zero r l = omega arith
try-one (v ∷ vs) t (suc n) r l = omega (arith, try-one vs (λ n. t (suc n)) n r l)

-- where all may be tried, they are whole
pub try-all : (vs : List Potential) (t : ℕ → ℕ) (r : Remembered) (l : List Seat) → to_try vs t (length vs) r l ≤ total vs r l + tolls vs t
try-all [] t r l = omega arith
try-all (v ∷ vs) t r l = omega (arith, try-all vs (λ n. t (suc n)) r l)

-- ---- the knowledge that holds a budget
module _ {M : Type 0} (text : Text) (on : Constructs) (x : Prices M) (budget : ℕ) where
  -- what is to be paid before an item
  abbrev pub whole : Remembered → List Seat → ℕ
  whole r l = total x.potentials r l + x.fixed l

  -- what the tries at a byte cost, if all are made
  abbrev pub extra : List Seat → ℕ
  extra l = tolls x.potentials (x.toll l)

  -- After so many calls some constructs may still be tried: what is there of them is the item, and they are paid
  abbrev pub Tries : M → List (Construct Found TextByte Unit Unit) → Remembered → ℕ → List Seat → Type 0
  Tries m cs r n l = (first_there (grammars_of cs) on (bytes_of l) (x.other m (bytes_of l)) ≡ x.item m (bytes_of l)) × (n + (to_try x.potentials (x.toll l) (length cs) r l + x.fixed l) ≤ budget + extra l)

  -- none may
  abbrev pub TriesNone : M → Remembered → ℕ → List Seat → Type 0
  TriesNone m r n l = (x.other m (bytes_of l) ≡ x.item m (bytes_of l)) × (n + (total x.potentials r (drop 1 l) + x.fixed l) ≤ budget + extra l + 1)

  abbrev pub budgeted : Knowledge Found TextByte M
  budgeted = record {
    after_item = x.after;
    knows = λ m p events local. x.sound m p events (remembered local) × (spent local + whole (remembered local) (drop p text.seats) ≤ budget);
    tries = λ m cs p events local. x.trying m cs p events (remembered local) × Tries m cs (remembered local) (spent local) (drop p text.seats);
    at_data = λ m p events local. x.trying m [] p events (remembered local) × TriesNone m (remembered local) (spent local) (drop p text.seats);
  }

  -- an item of so many bytes pays for so many calls, and for what was tried before
  abbrev pub Pays : (calls size : ℕ) → List Seat → Type 0
  Pays calls size l = (0 < size) × (calls + 1 + extra l + x.fixed (drop size l) ≤ x.fixed l)

module _ {M : Type 0} (g : Given) (text : Text) (plays : Plays g text) (names : Between) (x : Prices M) (budget : ℕ) (down : GoDown x.potentials) (is : IsSound g text x) where
  abbrev on : Constructs
  on = g.options.constructs

  abbrev known : Knowledge Found TextByte M
  known = budgeted text on x budget

  pub budget-kept : IsKept g text known
  budget-kept = record {
    passes = λ m c cs p events local s ss here none h.
        let r = remembered local in
        let bytes = bytes_of (s ∷ ss) in
        let at = subst (Tries text on x budget m (c ∷ cs) r (spent local)) here h.1 in
        let rest : first_there (grammars_of cs) on bytes (x.other m bytes) ≡ x.item m bytes = sym (none (first_there (grammars_of cs) on bytes (x.other m bytes))) ∙ at.0 in
        (is.passes m c cs p events r s ss here none h.0, subst (Tries text on x budget m cs r (spent local)) (sym here) (rest, omega (arith, at.1, try-fewer x.potentials down (x.toll (s ∷ ss)) (length cs) r s ss)));
    to_data = λ m p events local h. (h.0, (h.1.0, (let once = after-call local in omega (arith, h.1.1, once.calls))));
  }

  -- A construct before others in the list is decided, and paid: if it is there, by its bytes; if not, by its potential
  abbrev pub DecidesPaid : M → (rest : List (Construct Found TextByte Unit Unit)) → (nok : Name) (p : ℕ) (ended : Bool) (events : List Event) → List Seat → Configuration Unit Unit → List Choice → State → Option Found → Type 0
  DecidesPaid m rest nok p ended events l k cs s None =
      (after : Local Unit Unit) × x.trying m rest p events (remembered after)
      × (spent after + 1 + to_try x.potentials (x.toll l) (length rest) (remembered after) l ≤ spent k.local + to_try x.potentials (x.toll l) (suc (length rest)) (remembered k.local) l)
      × Leads g text plays k cs s (between_items p Nothing ended events after) [] (Next nok)
  DecidesPaid m rest nok p ended events l k cs s (Some item) =
      (ended_after : Bool) × (after : Local Unit Unit) × x.sound (x.after m item) (p + item_length item) (events ++ item_events g.bytes (item, take (item_length item) l)) (remembered after)
      × (spent after + 1 + extra text on x budget l + whole text on x budget (remembered after) (drop (item_length item) l) ≤ spent k.local + to_try x.potentials (x.toll l) (suc (length rest)) (remembered k.local) l + x.fixed l)
      × Leads g text plays k cs s (between_items (p + item_length item) Nothing ended_after (events ++ item_events g.bytes (item, take (item_length item) l)) after) [] (Next names.home)

  abbrev pub ReadsPaid : M → Construct Found TextByte Unit Unit → List (Construct Found TextByte Unit Unit) → Type 0
  ReadsPaid m c rest =
      (nok : Name) (p : ℕ) (ended : Bool) (events : List Event) (local : Local Unit Unit) (s : Seat) (ss : List Seat) → drop p text.seats ≡ s ∷ ss → c.grammar.first s.byte ≡ true
      → c.grammar.on on ≡ true → x.trying m (c ∷ rest) p events (remembered local) → DecidesPaid m rest nok p ended events (s ∷ ss) (between_items p Byte ended events local) (outer names.home nok p ended events ∷ []) (Retry c.start) (c.grammar.front (bytes_of (s ∷ ss)))

  -- behind an item
  behind : (p n : ℕ) (s : Seat) (ss : List Seat) → drop p text.seats ≡ s ∷ ss → drop (p + n) text.seats ≡ drop n (s ∷ ss)
  behind p n s ss here = sym (drop-drop n p text.seats) ∙ ap (drop n) here

  -- so the frame of lists of constructs has its theorem
  decided-paid : (m : M) (c : Construct Found TextByte Unit Unit) (rest : List (Construct Found TextByte Unit Unit)) (nok : Name) (p : ℕ) (ended : Bool) (events : List Event) (local : Local Unit Unit) (s : Seat) (ss : List Seat) → drop p text.seats ≡ s ∷ ss
      → known.tries m (c ∷ rest) p events local → (cs : List Choice) (state : State) (o : Option Found) → c.grammar.front (bytes_of (s ∷ ss)) ≡ o
      → DecidesPaid m rest nok p ended events (s ∷ ss) (between_items p Byte ended events (counts local)) cs state o
      → DecidesTo g text plays.step names text_byte item_length (item_events g.bytes) known m rest nok p ended events (s ∷ ss) (between_items p Byte ended events (counts local)) cs state o
  decided-paid m c rest nok p ended events local s ss here knows cs state None is d =
      let bytes = bytes_of (s ∷ ss) in
      let after = d.0 in
      let at = subst (Tries text on x budget m (c ∷ rest) (remembered local) (spent local)) here knows.1 in
      let once = after-call local in
      let others : first_there (grammars_of rest) on bytes (x.other m bytes) ≡ x.item m bytes = sym (or-none (c.grammar.on on) (c.grammar.front bytes) (first_there (grammars_of rest) on bytes (x.other m bytes)) is) ∙ at.0 in
      (after, (d.1, subst (Tries text on x budget m rest (remembered after) (spent after)) (sym here) (others, omega (arith, at.1, d.2, once.calls))), d.3)
  decided-paid m c rest nok p ended events local s ss here knows cs state (Some item) is d =
      let after = d.1 in
      let at = subst (Tries text on x budget m (c ∷ rest) (remembered local) (spent local)) here knows.1 in
      let once = after-call local in (
        d.0,
        after,
        (d.2, subst (λ l. spent after + whole text on x budget (remembered after) l ≤ budget) (sym (behind p (item_length item) s ss here)) (omega (arith, at.1, d.3, once.calls))),
        d.4,
      )

  pub reads-budgeted : (m : M) (c : Construct Found TextByte Unit Unit) (rest : List (Construct Found TextByte Unit Unit)) → ReadsPaid m c rest → Reads g text plays.step names text_byte item_length (item_events g.bytes) known m c rest
  reads-budgeted m c rest reads nok p ended events local s ss here first is_on knows =
      decided-paid m c rest nok p ended events local s ss here knows (outer names.home nok p ended events ∷ []) (Retry c.start) (c.grammar.front (bytes_of (s ∷ ss))) refl
      (reads nok p ended events (counts local) s ss here first is_on knows.0)

  -- a construct without memory: its calls are paid by its potential, or by its bytes
  within-paid : (m : M) (c : Construct Found TextByte Unit Unit) (rest : List (Construct Found TextByte Unit Unit)) (n : ℕ) (nok : Name) (p : ℕ) (ended : Bool) (events : List Event) (local : Local Unit Unit) (s : Seat) (ss : List Seat) → drop p text.seats ≡ s ∷ ss
      → x.trying m (c ∷ rest) p events (remembered local) → (cs : List Choice) (state : State) (o : Option Found) → c.grammar.front (bytes_of (s ∷ ss)) ≡ o
      → (o ≡ None → (r : Remembered) → n + 1 + at_index x.potentials (length rest) r ss ≤ x.toll (s ∷ ss) (length rest) + at_index x.potentials (length rest) r (s ∷ ss))
      → ((item : Found) → o ≡ Some item → x.plain item × Pays text on x budget n (item_length item) (s ∷ ss))
      → DecidesIn g text plays names n nok p ended events (s ∷ ss) (between_items p Byte ended events local) cs state o
      → DecidesPaid m rest nok p ended events (s ∷ ss) (between_items p Byte ended events local) cs state o
  within-paid m c rest n nok p ended events local s ss here trying cs state None none missed found d =
      let after = d.0 in
      let r = remembered local in (
        after,
        subst (x.trying m rest p events) (sym d.1.same) (is.passes m c rest p events r s ss here (λ item. or-none (c.grammar.on on) (c.grammar.front (bytes_of (s ∷ ss))) item none) trying),
        subst (λ r'. spent after + 1 + to_try x.potentials (x.toll (s ∷ ss)) (length rest) r' (s ∷ ss) ≤ spent local + to_try x.potentials (x.toll (s ∷ ss)) (suc (length rest)) r (s ∷ ss)) (sym d.1.same)
            (omega (arith, d.1.calls, missed refl r, try-one x.potentials (x.toll (s ∷ ss)) (length rest) r (s ∷ ss))),
        d.2,
      )
  within-paid m c rest n nok p ended events local s ss here trying cs state (Some item) there missed found d =
      let after = d.1 in
      let r = remembered local in
      let size = item_length item in
      let (plain, pays) = found item refl in (
        d.0,
        after,
        subst (x.sound (x.after m item) (p + size) (events ++ item_events g.bytes (item, take size (s ∷ ss)))) (sym d.2.same) (is.later m p events r s ss item here plain (is.holds m (c ∷ rest) p events r trying)),
        subst (λ r'. spent after + 1 + extra text on x budget (s ∷ ss) + whole text on x budget r' (drop size (s ∷ ss)) ≤ spent local + to_try x.potentials (x.toll (s ∷ ss)) (suc (length rest)) r (s ∷ ss) + x.fixed (s ∷ ss)) (sym d.2.same)
            (omega (arith, d.2.calls, pays.1, total-behind x.potentials down size r s ss pays.0, try-none x.potentials down (x.toll (s ∷ ss)) (suc (length rest)) r s ss)),
        d.3,
      )

  pub reads-within : (m : M) (c : Construct Found TextByte Unit Unit) (rest : List (Construct Found TextByte Unit Unit)) (calls : List ℕ → ℕ) → ReadsIn g text plays names calls c
      → ((s : Seat) (ss : List Seat) → c.grammar.first s.byte ≡ true → c.grammar.front (bytes_of (s ∷ ss)) ≡ None → (r : Remembered)
      → calls (bytes_of (s ∷ ss)) + 1 + at_index x.potentials (length rest) r ss ≤ x.toll (s ∷ ss) (length rest) + at_index x.potentials (length rest) r (s ∷ ss))
      → ((s : Seat) (ss : List Seat) → c.grammar.first s.byte ≡ true → (item : Found) → c.grammar.front (bytes_of (s ∷ ss)) ≡ Some item → x.plain item × Pays text on x budget (calls (bytes_of (s ∷ ss))) (item_length item) (s ∷ ss))
      → ReadsPaid m c rest
  reads-within m c rest calls reads missed found nok p ended events local s ss here first is_on trying =
      within-paid m c rest (calls (bytes_of (s ∷ ss))) nok p ended events local s ss here trying (outer names.home nok p ended events ∷ []) (Retry c.start) (c.grammar.front (bytes_of (s ∷ ss))) refl
      (missed s ss first) (found s ss first) (reads nok p ended events local s ss here first)

  -- a plain item that is no construct is paid by its bytes
  pub adds-paid : (m : M) (n : ℕ) (name : Name) (p : ℕ) (ended : Bool) (events : List Event) (local : Local Unit Unit) (s : Seat) (ss : List Seat) (item : Found) → drop p text.seats ≡ s ∷ ss → x.plain item → x.sound m p events (remembered local)
      → spent local + (total x.potentials (remembered local) ss + x.fixed (s ∷ ss)) ≤ budget + extra text on x budget (s ∷ ss) + 1 → Pays text on x budget n (item_length item) (s ∷ ss)
      → AddsItemIn g text plays names n (between_items p Byte ended events local) (Retry name) p events (s ∷ ss) item
      → AddsFrom g text plays.step names text_byte item_length (item_events g.bytes) known m (between_items p Byte ended events local) (Retry name) p events (s ∷ ss) item
  adds-paid m n name p ended events local s ss item here plain sound paid pays d =
      let after = d.1 in
      let r = remembered local in
      let size = item_length item in (
        d.0,
        after,
        (
          subst (x.sound (x.after m item) (p + size) (events ++ item_events g.bytes (item, take size (s ∷ ss)))) (sym d.2.same) (is.later m p events r s ss item here plain sound),
          subst (λ r'. spent after + whole text on x budget r' (drop (p + size) text.seats) ≤ budget) (sym d.2.same)
              (subst (λ l. spent after + whole text on x budget r l ≤ budget) (sym (behind p size s ss here)) (omega (arith, d.2.calls, pays.1, paid, total-behind x.potentials down size r s ss pays.0))),
        ),
        d.3,
      )
