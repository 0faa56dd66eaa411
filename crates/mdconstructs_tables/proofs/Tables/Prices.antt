-- The calls of a machine whose table fits are paid for: what the current state and all waiting choices may cost falls at each call.
use Rattle.mdconstructs_tables.proofs.Prelude.{◌≡◌, ◌≢◌, ℕ, ◌+◌, ◌≤◌, ◌&&◌, ◌||◌, not, List, [], ◌∷◌, ◌++◌, Bool, true, false, cond, Option, Some, None, refl, sym, ap, subst, arith, nat_lt, ltb-true, ltb-false, and_from, and_parts, Name, State, Next, Retry, Ok, Nok, AttemptKind, Attempt, Check, Given, Text, IsText, Configuration, Choice, Saved, Sight, sight, consumed, with_local, fed, unfed, restored, settled_at, CostPays, Act, consume, choose, StateRows, Table, named, past, choice_made_at, done, does, chooses, picked, table_step, last_or, is_void_last, saves, Frame, may_go_on, may_go_on_there, may_go_back, fits_choice, is_early, never, is_behind, outline, IsSaved, first_end, class_at, ends_at, choice_price, chosen_price, goes_on_price, waiting_or_below, waiting_price, table_holds, table_price, table_rules, falls_on, FallsLater, AllFallLater, are_falling, is_late_row, IsFitBy, IsFit, every, EventName, is_late_state, none-mapped, not-false, filter, IsLate}
use Rattle.mdconstructs_tables.proofs.Rows.Misfits.{named-out, named-same}
use Rattle.mdconstructs_tables.proofs.Rows.Laws.{chooses-append}
use Rattle.mdconstructs_tables.proofs.GrowingTexts.{fed-position}
use Rattle.mdconstructs_tables.proofs.Tables.Holding.{of_class, before_class, row_of, left_by, IsCall, waits-at}
use Rattle.mdconstructs_tables.proofs.Tables.Laws.{each-call, picked-passes}
use Rattle.mdconstructs_tables.proofs.Tables.Costs.{early-more, state-falls, go-costs, feeding-pays, call-pays}

-- Positions where choices end with Ok first
at-least : (b : Bool) (p : ℕ) → p ≤ cond b (p + 1) p
at-least true p = omega arith
at-least false p = omega arith

at-most-next : (b : Bool) (p : ℕ) → cond b (p + 1) p ≤ p + 1
at-most-next true p = omega arith
at-most-next false p = omega arith

more-first : (x y : Bool) (p : ℕ) → (x ≡ true → y ≡ true) → cond x (p + 1) p ≤ cond y (p + 1) p
more-first true true p h = omega arith
more-first true false p h = absurd (let c = h refl in cc)
more-first false y p h = at-least y p

-- by whether it is later
later-first : (f : ℕ → Bool) (b : Bool) (p q : ℕ) → nat_lt p q ≡ b → p ≤ q → cond (f p) (p + 1) p ≤ cond (f q) (q + 1) q
later-first f true p q e h = omega (arith, ltb-true p q e, at-most-next (f p) p, at-least (f q) q)
later-first f false p q e h = let same : p ≡ q = omega (arith, ltb-false p q e, h) in rw same (omega arith)

both-first : (x y : Bool) (p : ℕ) → cond (x && y) (p + 1) p ≤ cond x (p + 1) p
both-first true true p = omega arith
both-first true false p = omega arith
both-first false y p = omega arith

both-second : (x y : Bool) (p : ℕ) → cond (x && y) (p + 1) p ≤ cond y (p + 1) p
both-second true y p = omega arith
both-second false y p = at-least y p

implied : (x y : Bool) (p : ℕ) → (not x || y) ≡ true → cond x (p + 1) p ≤ cond y (p + 1) p
implied true true p h = omega arith
implied true false p h = absurd (cc)
implied false y p h = at-least y p

module _ {W R D : Type 0} (table : Table W R D) (g : Given) (early : Name → Option W → Bool) {falling : Name → Bool} (fit : IsFitBy table early falling) where
  -- all that waits, and where what goes on ends it with Ok first
  abbrev waits : Text → ℕ → List Choice → ℕ
  waits = waiting_price table early

  abbrev first : Text → ℕ → State → ℕ
  first = first_end table early

  -- Choices that wait cost no more if they end later
  module _ (below : ℕ → ℕ) (falls : (p q : ℕ) → p ≤ q → below q ≤ below p) (text : Text) where
    goes-on-falls : (a : State) (p q : ℕ) → falls_on falling a ≡ true → p ≤ q → goes_on_price table early below text q a ≤ goes_on_price table early below text p a
    goes-on-falls a p q may h =
        let own = state-falls table g early fit a text p q may h in
        let rest = falls (first text p a) (first text q a) (later-first (λ p. is_early early (class_at table text p) a) (nat_lt p q) p q refl h) in
        omega (arith, own, rest)

    one-falls : (kind : AttemptKind) (saved : Option Saved) (ok nok : State) (p q : ℕ) → (kind ≡ Attempt → falls_on falling ok ≡ true) → p ≤ q
        → waiting_or_below table early below text q kind saved ok nok ≤ waiting_or_below table early below text p kind saved ok nok
    one-falls Attempt None ok nok p q may h = omega (arith, goes-on-falls ok p q (may refl) h, falls p q h)
    one-falls Attempt (Some saved) ok nok p q may h = omega (arith, goes-on-falls ok p q (may refl) h)
    one-falls Check None ok nok p q may h = omega arith
    one-falls Check (Some saved) ok nok p q may h = omega arith

  waiting-falls : (cs : List Choice) (text : Text) (p q : ℕ) → AllFallLater falling cs → p ≤ q → waits text q cs ≤ waits text p cs
  waiting-falls [] text p q all h = omega arith
  waiting-falls (c ∷ cs) text p q all h = one-falls (λ p. waits text p cs) (λ p q h. waiting-falls cs text p q all.1 h) text c.kind c.saved c.ok c.nok p q all.0 h

  -- A choice that is made, above choices that cost at most this if they end behind where the rest of the acts begin. The acts may know less of
  -- what is early than there is
  module _ (mode : Name → Option W → Bool) (w : Option W) (text : Text) (k : Configuration R D) (known : (a : State) → is_early mode w a ≡ true → is_early early (class_at table text k.position) a ≡ true)
      (X : List Choice) (B : ℕ) (acts : List (Act R D)) (answer : State) where
    abbrev EndsFrom : ℕ → Type 0
    EndsFrom p = (e : ℕ) → p ≤ e → waits text e X ≤ B

    first-of : (a : State) → cond (is_early mode w a) (k.position + 1) k.position ≤ first text k.position a
    first-of a = more-first (is_early mode w a) (is_early early (class_at table text k.position) a) k.position (known a)

    made-costs : (kind : AttemptKind) (ok nok : State) (e : ℕ) → (kind ≡ Attempt → falls_on falling ok ≡ true) → EndsFrom (ends_at mode w k.position (choose kind ok nok ∷ acts) answer) → ends_at mode w k.position acts answer ≤ e
        → waits text e (choice_made_at kind ok nok k ∷ X) ≤ choice_price table text (ends_at mode w k.position acts answer) k.position kind ok nok + B
    made-costs Check ok nok e may all late =
        let p = k.position in
        let one = all (first text p ok) (omega (arith, first-of ok, both-first (is_early mode w ok) (is_early mode w nok) p)) in
        let other = all (first text p nok) (omega (arith, first-of nok, both-second (is_early mode w ok) (is_early mode w nok) p)) in
        omega (arith, one, other)
    made-costs Attempt ok Nok e may all late =
        let later = ends_at mode w k.position acts answer in
        let own = state-falls table g early fit ok text later e (may refl) late in
        let behind = at-least (is_early early (class_at table text e) ok) e in
        let one = all (first text e ok) (omega (arith, late, behind)) in
        let other = all e late in
        omega (arith, own, one, other)
    made-costs Attempt ok nok e may all late =
        let p = k.position in
        let later = ends_at mode w p acts answer in
        let own = state-falls table g early fit ok text later e (may refl) late in
        let behind = at-least (is_early early (class_at table text e) ok) e in
        let sooner = both-second (is_early mode w nok) (is_behind mode w acts answer) p in
        let one = all (first text e ok) (omega (arith, late, behind, sooner)) in
        let other = all (first text p nok) (omega (arith, first-of nok, both-first (is_early mode w nok) (is_behind mode w acts answer) p)) in
        omega (arith, own, one, other)

  -- an attempt that is made goes on with what costs less later
  may-fall : (kind : AttemptKind) (ok nok : State) (acts : List (Act R D)) → are_falling falling (choose kind ok nok ∷ acts) ≡ true → (kind ≡ Attempt → falls_on falling ok ≡ true) × (are_falling falling acts ≡ true)
  may-fall Attempt ok nok acts h = let (one, rest) = and_parts (falls_on falling ok) (are_falling falling acts) h in ((λ e. one), rest)
  may-fall Check ok nok acts h = ((λ e. absurd (cc)), h)

  -- the choices that acts make cost what was counted for them
  chosen-costs : (mode : Name → Option W → Bool) (acts : List (Act R D)) (answer : State) (w : Option W) (text : Text) (s : Sight) (k : Configuration R D)
      → ((a : State) → is_early mode w a ≡ true → is_early early (class_at table text k.position) a ≡ true) → (X : List Choice) (B : ℕ) → are_falling falling acts ≡ true
      → ((e : ℕ) → ends_at mode w k.position acts answer ≤ e → waits text e X ≤ B)
      → waits text (first text (does acts s k).position answer) (chooses acts s k X) ≤ chosen_price table mode w text k.position acts answer + B
  chosen-costs mode [] answer w text s k known X B fall all =
      let paid = all (first text k.position answer) (more-first (is_early mode w answer) (is_early early (class_at table text k.position) answer) k.position (known answer)) in omega (arith, paid)
  chosen-costs mode (consume ∷ acts) answer w text s k known X B fall all =
      let more = at-least (is_behind never w acts answer) (k.position + 1) in
      chosen-costs never acts answer w text (past s) (consumed k) (early-more early w (class_at table text (k.position + 1))) X B fall (λ e late. all e (omega (arith, late, more)))
  chosen-costs mode (choose kind ok nok ∷ acts) answer w text s k known X B fall all =
      let (may, rest) = may-fall kind ok nok acts fall in
      let price = choice_price table text (ends_at mode w k.position acts answer) k.position kind ok nok in
      let others = chosen-costs mode acts answer w text s k known (choice_made_at kind ok nok k ∷ X) (price + B) rest (λ e late. made-costs mode w text k known X B acts answer kind ok nok e may all late) in
      omega (arith, others)
  chosen-costs mode (act ∷ acts) answer w text s k known X B fall all = chosen-costs mode acts answer w text s (done act s k) known X B fall all

  made-fall : (kind : AttemptKind) (ok nok : State) (k : Configuration R D) → (kind ≡ Attempt → falls_on falling ok ≡ true) → FallsLater falling (choice_made_at kind ok nok k)
  made-fall Attempt ok nok k may = λ e. may refl
  made-fall Check ok nok k may = λ e. absurd (cc)

  -- and go on with what costs less later
  pub chosen-fall : (acts : List (Act R D)) (s : Sight) (k : Configuration R D) (X : List Choice) → are_falling falling acts ≡ true → AllFallLater falling X → AllFallLater falling (chooses acts s k X)
  chosen-fall [] s k X fall all = all
  chosen-fall (consume ∷ acts) s k X fall all = chosen-fall acts (past s) (consumed k) X fall all
  chosen-fall (choose kind ok nok ∷ acts) s k X fall all =
      let (may, rest) = may-fall kind ok nok acts fall in chosen-fall acts s k (choice_made_at kind ok nok k ∷ X) rest (made-fall kind ok nok k may, all)
  chosen-fall (act ∷ acts) s k X fall all = chosen-fall acts s (done act s k) X fall all

  -- each row of a state that is called passes the test of late rows
  abbrev pub AreLate : Type 0
  AreLate = (b w : Option W) (name : Name) (state : StateRows W R D) → named table.states name ≡ Some state → (s : Sight) (k : Configuration R D)
      → is_late_row early falling w state.name (picked (state.rows b w) g s k) ≡ true

  module _ (are_late : AreLate) (text : Text) (k : Configuration R D) (choices : List Choice) where
    -- what the row of a call passes
    pub passes : (name : Name) → (c : IsCall table g text k choices name) → let r = row_of table g text k c.state in let w = of_class table g text k in
        (are_falling falling r.acts ≡ true) × ((not (early name w) || is_behind early w r.acts r.answer) ≡ true)
    passes name c =
        let r = row_of table g text k c.state in
        let w = of_class table g text k in
        let passed = are_late (before_class table g text k) w name c.state c.is (sight g text k) (with_local k (table.first k.local)) in
        let (acts, rest) = and_parts (are_falling falling r.acts) _ passed in
        (acts, subst (λ n. (not (early (record { number = n }) w) || is_behind early w r.acts r.answer) ≡ true) (sym (named-same table.states name c.state c.is)) rest)

    pub calls-pay : (name : Name) → IsText g text → table_holds table g text k choices (Retry name) → AllFallLater falling choices
        → let q = table_step table g (sight g text k) k name in 1 + table_price table early g text q.configuration (q.choices ++ choices) q.answer ≤ table_price table early g text k choices (Retry name)
    calls-pay name is h all =
        let w = of_class table g text k in
        let p = k.position in
        let seen : class_at table text p ≡ w = waits-at table g k.waiting text p k.ended h.1.0 in
        each-call table g fit (λ q. 1 + table_price table early g text q.configuration (q.choices ++ choices) q.answer ≤ table_price table early g text k choices (Retry name)) text k choices name is h
        (λ c.
        let s = sight g text k in
        let k1 = with_local k (table.first k.local) in
        let r = row_of table g text k c.state in
        let left = left_by table g text k c.state in
        let (fall, late) = passes name c in
        let q = first text p (Retry name) in
        let sooner : q ≤ ends_at early w p r.acts r.answer = subst (λ v. cond (early name v) (p + 1) p ≤ ends_at early w p r.acts r.answer) (sym seen) (implied (early name w) (is_behind early w r.acts r.answer) p late) in
        let known : (a : State) → is_early early w a ≡ true → is_early early (class_at table text p) a ≡ true = λ a h. subst (λ v. is_early early v a ≡ true) (sym seen) h in
        let made = chosen-costs early r.acts r.answer w text s k1 known choices (waits text q choices) fall (λ e from. waiting-falls choices text q e all (omega (arith, sooner, from))) in
        let paid = call-pays table g early fit text k choices name h c in
        let wait = chooses-append r.acts s k1 [] choices in
        let price : waits text (first text left.position r.answer) (chooses r.acts s k1 [] ++ choices) ≡ waits text (first text left.position r.answer) (chooses r.acts s k1 choices) = ap (waits text (first text left.position r.answer)) wait in
        omega (arith, paid, made, price))

    -- a state that is fed
    pub fed-pays : (name : Name) → table_holds table g text k choices (Next name) → AllFallLater falling choices
        → table_price table early g text (fed text k) choices (Retry name) ≤ table_price table early g text k choices (Next name)
    fed-pays name h all =
        let own = feeding-pays table g early fit text k choices name h in
        let there = fed-position text k in
        let waiting : waits text (first text (fed text k).position (Retry name)) choices ≡ waits text (first text k.position (Next name)) choices = ap (λ p. waits text (first text p (Retry name)) choices) there in
        omega (arith, own, waiting)

  -- what a choice goes on with is not called at once
  goes-on : (f : Frame W) (fresh : Bool) (known : Option W) (a : State) → may_go_on table.states f fresh known a ≡ true → (n : Name) → a ≢ Retry n
  goes-on f fresh known (Retry name) h n e = absurd (cc)
  goes-on f fresh known a h n e = cc

  goes-back : (f : Frame W) (a : State) → may_go_back table.states f a ≡ true → (n : Name) → a ≢ Retry n
  goes-back f (Retry name) h n e = absurd (cc)
  goes-back f a h n e = cc

  module _ (c : Choice) (cs : List Choice) (f : Frame W) (stack : List EventName) (text : Text) (k : Configuration R D) where
    -- what a choice goes on with costs at most what was counted for the choice
    ok-costs : (kind : AttemptKind) (b : Bool) (saved : Option Saved) → saves kind c.nok ≡ b → fits_choice table.states f kind c.ok c.nok ≡ true → IsSaved table.class g text k.position (outline k) stack f b saved
        → table_price table early g text (settled_at kind saved Ok k) cs c.ok ≤ waiting_or_below table early (λ p. waits text p cs) text k.position kind saved c.ok c.nok
    ok-costs Attempt true (Some saved) is fit_it h =
        let may = goes-on f false None c.ok (and_parts (may_go_on table.states f false None c.ok) _ fit_it).0 in
        let cost = go-costs table g early fit c.ok text (unfed k) may in
        omega (arith, cost)
    ok-costs Attempt false None is fit_it h =
        let may = goes-on f false None c.ok (and_parts (may_go_on table.states f false None c.ok) _ fit_it).0 in
        let cost = go-costs table g early fit c.ok text (unfed k) may in
        omega (arith, cost)
    ok-costs Check true (Some saved) is fit_it h =
        let may = goes-on f f.fresh f.waits c.ok (and_parts (may_go_on_there table.states f c.ok) (may_go_back table.states f c.nok) fit_it).0 in
        let cost = go-costs table g early fit c.ok text (restored (Some saved) k) may in
        omega (arith, cost)
    ok-costs Check false saved is fit_it h = absurd (cc)
    ok-costs kind b saved is fit_it h = absurd h

    unsaved-costs : (a : State) → saves Attempt a ≡ false → table_price table early g text (unfed k) cs a ≤ waits text (k.position + 1) cs
    unsaved-costs Nok is = omega arith
    unsaved-costs a is = absurd (cc)

    nok-costs : (kind : AttemptKind) (b : Bool) (saved : Option Saved) → saves kind c.nok ≡ b → fits_choice table.states f kind c.ok c.nok ≡ true → IsSaved table.class g text k.position (outline k) stack f b saved
        → table_price table early g text (settled_at kind saved Nok k) cs c.nok ≤ waiting_or_below table early (λ p. waits text p cs) text (k.position + 1) kind saved c.ok c.nok
    nok-costs Attempt true (Some saved) is fit_it h =
        let rest = (and_parts (may_go_on table.states f false None c.ok) (not (is_void_last (last_or None f.spans)) && may_go_back table.states f c.nok) fit_it).1 in
        let may = goes-back f c.nok (and_parts (not (is_void_last (last_or None f.spans))) (may_go_back table.states f c.nok) rest).1 in
        let cost = go-costs table g early fit c.nok text (restored (Some saved) k) may in
        omega (arith, cost)
    nok-costs Attempt false None is fit_it h = let cost = unsaved-costs c.nok is in omega (arith, cost)
    nok-costs Check true (Some saved) is fit_it h =
        let may = goes-back f c.nok (and_parts (may_go_on_there table.states f c.ok) (may_go_back table.states f c.nok) fit_it).1 in
        let cost = go-costs table g early fit c.nok text (restored (Some saved) k) may in
        omega (arith, cost)
    nok-costs Check false saved is fit_it h = absurd (cc)
    nok-costs kind b saved is fit_it h = absurd h

  pub ok-pays : (text : Text) (k : Configuration R D) (c : Choice) (cs : List Choice) → table_holds table g text k (c ∷ cs) Ok
      → table_price table early g text (settled_at c.kind c.saved Ok k) cs c.ok ≤ table_price table early g text k (c ∷ cs) Ok
  ok-pays text k c cs h =
      let w = h.1.waiting.0 in
      let cost = ok-costs c cs w.frame h.1.base text k c.kind (saves c.kind c.nok) c.saved refl w.fits w.saved in
      omega (arith, cost)

  pub nok-pays : (text : Text) (k : Configuration R D) (c : Choice) (cs : List Choice) → table_holds table g text k (c ∷ cs) Nok
      → table_price table early g text (settled_at c.kind c.saved Nok k) cs c.nok ≤ table_price table early g text k (c ∷ cs) Nok
  nok-pays text k c cs h =
      let w = h.1.waiting.0 in
      let cost = nok-costs c cs w.frame h.1.base text k c.kind (saves c.kind c.nok) c.saved refl w.fits w.saved in
      omega (arith, cost)

-- If all states cost less later and none is early, each row passes
every-falls : (a : State) → falls_on every a ≡ true
every-falls (Next name) = refl
every-falls a = refl

module _ {R D : Type 0} where
  every-falling : (acts : List (Act R D)) → are_falling every acts ≡ true
  every-falling [] = refl
  every-falling (choose Attempt ok nok ∷ acts) = and_from (falls_on every ok) (are_falling every acts) (every-falls ok) (every-falling acts)
  every-falling (choose Check ok nok ∷ acts) = every-falling acts
  every-falling (act ∷ acts) = every-falling acts

pub all-fall : (choices : List Choice) → AllFallLater every choices
all-fall [] = tt
all-fall (c ∷ cs) = ((λ e. every-falls c.ok), all-fall cs)

pub every-late : {W R D : Type 0} (table : Table W R D) (g : Given) (fit : IsFit table) → AreLate table g never fit
every-late table g fit b w name state is s k = let acts = (picked (state.rows b w) g s k).acts in and_from (are_falling every acts) true (every-falling acts) refl

-- the test names no state as hasty
pub all-late : {W R D : Type 0} (table : Table W R D) (early : Name → Option W → Bool) (falling : Name → Bool) (g : Given) (is_late : IsLate table early falling) → AreLate table g early is_late.fit
all-late {W = W} {R = R} {D = D} table early falling g is_late b w name state is s k =
    let none = none-mapped (λ (state : StateRows W R D). state.name) (filter (λ state. not (is_late_state table early falling b w state)) table.states) (is_late.late b w) in
    let passes = not-false (is_late_state table early falling b w state) (named-out (λ state. not (is_late_state table early falling b w state)) table.states name state none is) in
    picked-passes (is_late_row early falling w state.name) (state.rows b w) g s k passes

pub table-cost_pays : {W R D : Type 0} (table : Table W R D) (g : Given) → IsFit table → CostPays g (table_rules table g)
table-cost_pays table g fit =
    let late = every-late table g fit in
    record {
      for_calls = λ text k choices name is h. calls-pay table g never fit late text k choices name is h (all-fall choices);
      for_feeding = λ text k choices name is h. fed-pays table g never fit late text k choices name h (all-fall choices);
      for_ok = λ text k choice choices is h. ok-pays table g never fit text k choice choices h;
      for_nok = λ text k choice choices is h. nok-pays table g never fit text k choice choices h;
    }
