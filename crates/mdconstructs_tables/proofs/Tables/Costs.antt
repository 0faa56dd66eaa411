-- What the states of a table cost, and each row of theirs.
use Rattle.mdconstructs_tables.proofs.Prelude.{◌≡◌, ◌≢◌, ℕ, ◌+◌, ◌-◌, ◌≤◌, ◌&&◌, List, [], ◌∷◌, Bool, true, false, cond, Option, Some, None, length, refl, sym, subst, arith, nat_lt, max, mul-le-mul_left, mul-le-mul_right, leb-true, ltb-true, ltb-false, and_from, and_parts, slice_get_past, Name, State, Next, Retry, AttemptKind, Attempt, Check, Given, Text, Configuration, Choice, Sight, sight, byte_of, with_local, fed, IsAsFar, Act, consume, choose, Rows, row, when, Calls, Cost, by_bytes, own, StateRows, Table, class_of, picked, named, Stage, end_waits, byte_waits, byte_read, Shape, fits_answer, fits_calls, is_some, is_early, never, is_behind, later_stage, first_stage, plus, larger, at_stage, calls_le, calls_or, fed_calls, next_calls, choice_calls, chosen_calls, answer_calls, calls_at, is_by_bytes, is_counted, counts_answer, counts_choices, pays_row, feeds, all_rows, is_called_at, is_called, price_by, and_of_own, own_cost, at_most, began_unfed, IsStateAt, next_price, retry_price, state_price, choice_price, chosen_price, answer_price, row_price, AreWithin, Stands, is_read, ends_at, class_at, PaysRows, ArePaid, table_holds, table_cost, falls_on, and_falls, AllFall, IsFitBy, cond_both}
use Rattle.mdconstructs_tables.proofs.Rows.Misfits.{named-same, named-in}
use Rattle.mdconstructs_tables.proofs.Rows.Laws.{Waited, reached}
use Rattle.mdconstructs_tables.proofs.GrowingTexts.{seat-at}
use Rattle.mdconstructs_tables.proofs.Tables.Holding.{called-fed, read-before, waits-at, of_class, before_class, row_of, left_by, IsCall}
use Rattle.mdconstructs_tables.proofs.Tables.Laws.{picked-passes, state-fits}

-- Calls
le-most : (c d : Calls) (n : ℕ) → calls_le c d ≡ true → at_most c n ≤ at_most d n
le-most c d n h =
    let (per, more) = and_parts _ _ h in
    let per_byte = leb-true c.per_byte d.per_byte per in
    omega (arith, leb-true c.more d.more more, mul-le-mul_right n per_byte)

more-most : (c : Calls) (m n : ℕ) → m ≤ n → at_most c m ≤ at_most c n
more-most c m n h = omega (arith, mul-le-mul_left c.per_byte h)

plus-most : (c d : Calls) (n : ℕ) → at_most (plus c d) n ≡ at_most c n + at_most d n
plus-most c d n = omega arith

max-most : (x y : ℕ) (c d : Calls) (n : ℕ) → x ≤ at_most c n → y ≤ at_most d n → max x y ≤ at_most (larger c d) n
max-most x y c d n h k =
    let first : c.per_byte ≤ (larger c d).per_byte = omega arith in
    let second : d.per_byte ≤ (larger c d).per_byte = omega arith in
    omega (arith, h, k, mul-le-mul_right n first, mul-le-mul_right n second)

-- how many bytes are left at a stage, if this many are left once what waits was read
abbrev bound : Stage → ℕ → ℕ
bound byte_waits n = n + 1
bound _ n = n

stage-most : (st : Stage) (c : Calls) (m n : ℕ) → m ≤ bound st n → at_most c m ≤ at_most (at_stage st c) n
stage-most byte_waits c m n h = omega (arith, mul-le-mul_left c.per_byte h)
stage-most st c m n h = more-most c m n h

fed-most : (c d : Calls) (n : ℕ) → calls_le c (at_stage byte_waits d) ≡ true → at_most c n ≤ at_most d (n + 1)
fed-most c d n h = omega (arith, le-most c (at_stage byte_waits d) n h)

read-left : (st : Stage) (n total p : ℕ) → total - p ≤ bound st n → total - (p + 1) ≤ n
read-left end_waits n total p left = omega arith
read-left st n total p left = omega arith

-- what is early whatever the states say is early, whatever waits
pub early-more : {W : Type 0} (early : Name → Option W → Bool) (w there : Option W) (a : State) → is_early never w a ≡ true → is_early early there a ≡ true
early-more early w there (Next name) h = absurd (cc)
early-more early w there (Retry name) h = absurd (cc)
early-more early w there a h = h

-- what is asked of a state, and the rest
own-parts : (c : Cost) (asked : (Text → ℕ → ℕ) → Type 0) (other : Type 0) → and_of_own c asked other → and_of_own c asked (Unit {0}) × other
own-parts (by_bytes c) asked other h = (tt, h)
own-parts (own f) asked other h = ((h.0, tt), h.1)

fall-parts : (b : Bool) (c : Cost) (other : Type 0) → and_falls b c other → and_falls b c (Unit {0}) × other
fall-parts true (own f) other h = ((h.0, tt), h.1)
fall-parts true (by_bytes c) other h = (tt, h)
fall-parts false (own f) other h = (tt, h)
fall-parts false (by_bytes c) other h = (tt, h)

module _ {W R D : Type 0} (table : Table W R D) (g : Given) (early : Name → Option W → Bool) where
  -- if a state says how many calls are left, that is its cost
  counted : (c : Cost) (text : Text) (p : ℕ) (f : Calls → ℕ) → is_by_bytes table.states c ≡ true → price_by c text p f ≤ f (calls_or table.states c)
  counted (own cost) text p f e = absurd (cc)
  counted (by_bytes c) text p f e = omega arith

  counted-next : (o : Option (StateRows W R D)) (text : Text) (p : ℕ) → is_counted table.states o ≡ true → next_price table text p o ≤ at_most (fed_calls table.states o) (length text.seats - p)
  counted-next None text p h = omega arith
  counted-next (Some state) text p h = counted state.cost text p (λ c. at_most c (length text.seats - p)) h

  counted-retry : (b w : Option W) (o : Option (StateRows W R D)) (text : Text) (p : ℕ) → is_counted table.states o ≡ true
      → retry_price table b w text p o ≤ at_most (calls_at table.states table.states b w o) (length text.seats - p - 1)
  counted-retry b w None text p h = omega arith
  counted-retry b w (Some state) text p h = counted state.cost text p (λ c. at_most (calls_at table.states table.states b w (Some state)) (length text.seats - p - 1)) h

  counted-state : (a : State) (text : Text) (p : ℕ) → counts_answer table.states a ≡ true → state_price table text p a ≤ at_most (next_calls table.states a) (length text.seats - p)
  counted-state (Next name) text p h = counted-next (named table.states name) text p h
  counted-state a text p h = omega arith

  counted-answer : (b w : Option W) (a : State) (text : Text) (p : ℕ) → counts_answer table.states a ≡ true
      → answer_price table b w text p a ≤ at_most (answer_calls table.states (λ name. calls_at table.states table.states b w (named table.states name)) a) (length text.seats - p - 1)
  counted-answer b w (Next name) text p h = let fewer : length text.seats - (p + 1) ≡ length text.seats - p - 1 = omega arith in subst (λ n. next_price table text (p + 1) (named table.states name) ≤ at_most (fed_calls table.states (named table.states name)) n) fewer (counted-next (named table.states name) text (p + 1) h)
  counted-answer b w (Retry name) text p h = counted-retry b w (named table.states name) text p h
  counted-answer b w a text p h = omega arith

  counted-at : (a : State) (st : Stage) (n : ℕ) (text : Text) (p : ℕ) → length text.seats - p ≤ bound st n → counts_answer table.states a ≡ true → state_price table text p a ≤ at_most (at_stage st (next_calls table.states a)) n
  counted-at a st n text p left h =
      let staged = stage-most st (next_calls table.states a) (length text.seats - p) n left in
      let here = counted-state a text p h in
      omega (arith, staged, here)

  counted-choice : (kind : AttemptKind) (ok nok : State) (later st : Stage) (n : ℕ) (text : Text) (q p : ℕ) → length text.seats - q ≤ bound later n → length text.seats - p ≤ bound st n
      → counts_answer table.states ok ≡ true → counts_answer table.states nok ≡ true → choice_price table text q p kind ok nok ≤ at_most (choice_calls table.states later st kind ok nok) n
  counted-choice Attempt ok nok later st n text q p ahead left h k =
      max-most (state_price table text q ok) (state_price table text p nok) (at_stage later (next_calls table.states ok)) (at_stage st (next_calls table.states nok)) n (counted-at ok later n text q ahead h) (counted-at nok st n text p left k)
  counted-choice Check ok nok later st n text q p ahead left h k =
      max-most (state_price table text p ok) (state_price table text p nok) (at_stage st (next_calls table.states ok)) (at_stage st (next_calls table.states nok)) n (counted-at ok st n text p left h) (counted-at nok st n text p left k)

  -- what is behind its place whatever the states say is behind it
  behind-more : (early : Name → Option W → Bool) (w : Option W) (acts : List (Act R D)) (a : State) → is_behind never w acts a ≡ true → is_behind early w acts a ≡ true
  behind-more early w [] a h = early-more early w w a h
  behind-more early w (consume ∷ acts) a h = h
  behind-more early w (choose Attempt ok nok ∷ acts) a h =
      let (first, rest) = and_parts (is_early never w nok) (is_behind never w acts a) h in
      and_from (is_early early w nok) (is_behind early w acts a) (early-more early w w nok first) (behind-more early w acts a rest)
  behind-more early w (choose Check ok nok ∷ acts) a h =
      let (first, second) = and_parts (is_early never w ok) (is_early never w nok) h in
      and_from (is_early early w ok) (is_early early w nok) (early-more early w w ok first) (early-more early w w nok second)
  behind-more early w (act ∷ acts) a h = behind-more early w acts a h

  -- how many bytes are left where Ok comes first
  later-left : (known is : Bool) (st : Stage) (n total p : ℕ) → (known ≡ true → is ≡ true) → total - p ≤ bound st n → total - cond is (p + 1) p ≤ bound (later_stage known st) n
  later-left true true st n total p more left = read-left st n total p left
  later-left true false st n total p more left = absurd (let c = more refl in cc)
  later-left false true st n total p more left = omega (arith, left)
  later-left false false st n total p more left = left

  counted-chosen : (early : Name → Option W → Bool) (acts : List (Act R D)) (a : State) (w : Option W) (st : Stage) (n : ℕ) (text : Text) (p : ℕ) → length text.seats - p ≤ bound st n → counts_choices table.states acts ≡ true
      → chosen_price table early w text p acts a ≤ at_most (chosen_calls table.states w st acts a) n
  counted-chosen early [] a w st n text p left h = omega arith
  counted-chosen early (consume ∷ acts) a w st n text p left h = counted-chosen never acts a w byte_read n text (p + 1) (read-left st n (length text.seats) p left) h
  counted-chosen early (choose kind ok nok ∷ acts) a w st n text p left h =
      let (first, more) = and_parts (counts_answer table.states ok) (counts_answer table.states nok && counts_choices table.states acts) h in
      let (second, others) = and_parts (counts_answer table.states nok) (counts_choices table.states acts) more in
      let known = is_behind never w acts a in
      let later = later_stage known st in
      let ahead = later-left known (is_behind early w acts a) st n (length text.seats) p (behind-more early w acts a) left in
      let one = counted-choice kind ok nok later st n text (ends_at early w p acts a) p ahead left first second in
      let rest = counted-chosen early acts a w st n text p left others in
      omega (arith, one, rest, plus-most (choice_calls table.states later st kind ok nok) (chosen_calls table.states w st acts a) n)
  counted-chosen early (act ∷ acts) a w st n text p left h = counted-chosen early acts a w st n text p left h

  first-left : (w : Option W) (text : Text) (p : ℕ) → Stands w text p → length text.seats - p ≤ bound (first_stage w) (length text.seats - p - 1)
  first-left None text p h = omega (arith, h)
  first-left (Some w) text p h = omega arith

  -- the row that is picked is within what all are
  picked-within : (b w : Option W) (text : Text) (p price : ℕ) (rows : Rows R D) (s : Sight) (k : Configuration R D) → AreWithin table early b w text p price rows → row_price table early b w text p (picked rows g s k) ≤ price
  picked-within b w text p price (row acts answer) s k h = h
  picked-within b w text p price (when by one other) s k h =
      cond_both (by g s k) (picked one g s k) (picked other g s k) (λ r. row_price table early b w text p r ≤ price) (λ e. picked-within b w text p price one s k h.0) (λ e. picked-within b w text p price other s k h.1)

  -- what is asked of a state with a cost of its own
  abbrev PaysBy : StateRows W R D → Cost → Type 0
  PaysBy state c =
      and_of_own c
      (λ f. (b w : Option W) (text : Text) (p : ℕ) → is_some b ≡ is_read p → Stands w text p → class_at table text p ≡ w → is_called_at state.called true w ≡ true
      → AreWithin table early b w text p (own_cost c text p) (state.rows b w))
      (Unit {0})

  -- a row of a state is within what the state costs
  pub row-within : (b w : Option W) (state : StateRows W R D) (s : Sight) (k : Configuration R D) (text : Text) (p : ℕ) → is_some b ≡ is_read p → Stands w text p → class_at table text p ≡ w → is_called_at state.called true w ≡ true → PaysBy state state.cost
      → fits_calls table.states b w state state.cost ≡ true → row_price table early b w text p (picked (state.rows b w) g s k) ≤ retry_price table b w text p (Some state)
  row-within b w state s k text p read at seen called asked fit =
      elim state.cost as (λ c. PaysBy state c → fits_calls table.states b w state c ≡ true
      → row_price table early b w text p (picked (state.rows b w) g s k) ≤ price_by c text p (λ c. at_most (calls_at table.states table.states b w (Some state)) (length text.seats - p - 1))) [
        | own f ↦ λ paid fit. picked-within b w text p (f text p) (state.rows b w) s k (paid.0 b w text p read at seen called)
        | by_bytes c ↦ λ paid fit.
            let r = picked (state.rows b w) g s k in
            let n = length text.seats - p - 1 in
            let pays = picked-passes (pays_row table.states b w state) (state.rows b w) g s k (and_parts _ (feeds table.states b w state c) fit).0 in
            let (answers, rest) = and_parts (counts_answer table.states r.answer) _ pays in
            let (chosen, paid) = and_parts (counts_choices table.states r.acts) _ rest in
            let a = answer_calls table.states (λ name. calls_at table.states table.states b w (named table.states name)) r.answer in
            let made = chosen_calls table.states w (first_stage w) r.acts r.answer in
            let one : Calls = record { per_byte = 0; more = 1 } in
            omega (
              arith,
              counted-answer b w r.answer text p answers,
              counted-chosen early r.acts r.answer w (first_stage w) n text p (first-left w text p at) chosen,
              le-most (plus one (plus a made)) (calls_at table.states table.states b w (Some state)) n paid,
              plus-most one (plus a made) n,
              plus-most a made n,
            )
      ] asked fit

  -- the state that a call returns costs what was counted for it
  pub answer-costs : (st : Stage) (b w : Option W) (p : Shape) (a : State) (text : Text) (k k' : Configuration R D) → fits_answer table.states st b w p a ≡ true → IsAsFar k' (reached st k)
      → table_cost table g text k' a ≤ answer_price table (before_class table g text k) (of_class table g text k) text k.position a
  answer-costs byte_read b w p (Next name) text k k' fit far = rw far.0 (omega arith)
  answer-costs st b w p (Next name) text k k' fit far = absurd (cc)
  answer-costs byte_waits b (Some w) p (Retry name) text k k' fit far = rw (far.0, far.1) (omega arith)
  answer-costs end_waits b None p (Retry name) text k k' fit far = rw (far.0, far.1) (omega arith)
  answer-costs st b w p (Retry name) text k k' fit far = absurd (cc)
  answer-costs st b w p a text k k' fit far = omega arith

  pub stands-at : (w : Option W) (text : Text) (k : Configuration R D) → Waited (first_stage w) text k → Stands w text k.position
  stands-at None text k met = met.1
  stands-at (Some w) text k met = met.1

  module _ {falling : Name → Bool} (fit : IsFitBy table early falling) where
    -- what a choice goes on with may cost less the more was read
    found-falls : (name : Name) (o : Option (StateRows W R D)) (text : Text) (p q : ℕ) → named table.states name ≡ o → falling name ≡ true → p ≤ q → next_price table text q o ≤ next_price table text p o
    found-falls name None text p q is may h = omega arith
    found-falls name (Some state) text p q is may h =
        let same = named-same table.states name state is in
        let there : falling state.name ≡ true = subst (λ n. falling (record { number = n }) ≡ true) same may in
        elim state.cost as (λ c. and_falls true c (Unit {0}) → price_by c text q (λ c. at_most c (length text.seats - q)) ≤ price_by c text p (λ c. at_most c (length text.seats - p))) [
          | own f ↦ λ falls. falls.0 text p q h
          | by_bytes c ↦ λ falls. more-most c (length text.seats - q) (length text.seats - p) (omega (arith, h))
        ] (subst (λ b. and_falls b state.cost (Unit {0})) there
        (named-in (AllFall falling) (λ y. and_falls (falling y.name) y.cost (Unit {0})) (λ x xs h. fall-parts (falling x.name) x.cost (AllFall falling xs) h) table.states name state fit.falls is).0)

    pub state-falls : (a : State) (text : Text) (p q : ℕ) → falls_on falling a ≡ true → p ≤ q → state_price table text q a ≤ state_price table text p a
    state-falls (Next name) text p q may h = found-falls name (named table.states name) text p q refl may h
    state-falls a text p q may h = omega arith

    -- what goes on where a choice was made costs what its state does
    pub go-costs : (a : State) (text : Text) (k : Configuration R D) → ((n : Name) → a ≢ Retry n) → table_cost table g text k a ≤ state_price table text k.position a
    go-costs (Retry name) text k h = absurd (h name refl)
    go-costs a text k h = omega arith

    -- feeding costs nothing
    feeds-most : (b w : Option W) (state : StateRows W R D) (c : Calls) (text : Text) (p : ℕ) → Stands w text p → feeds table.states b w state c ≡ true
        → at_most (calls_at table.states table.states b w (Some state)) (length text.seats - p - 1) ≤ at_most c (length text.seats - p)
    feeds-most b None state c text p past fed =
        let none : length text.seats - p ≡ 0 = omega (arith, past) in
        rw none (omega (arith, leb-true (calls_at table.states table.states b None (Some state)).more c.more fed))
    feeds-most b (Some w) state c text p inside fed =
        let n = length text.seats - p - 1 in
        let left : length text.seats - p ≡ n + 1 = omega (arith, inside) in
        let x = calls_at table.states table.states b (Some w) (Some state) in
        subst (λ m. at_most x n ≤ at_most c m) (sym left) (fed-most x c n fed)

    fed-costs : (b w : Option W) (state : StateRows W R D) (text : Text) (p : ℕ) → Stands w text p → fits_calls table.states b w state state.cost ≡ true
        → retry_price table b w text p (Some state) ≤ next_price table text p (Some state)
    fed-costs b w state text p at h =
        elim state.cost as (λ c. fits_calls table.states b w state c ≡ true
        → price_by c text p (λ c. at_most (calls_at table.states table.states b w (Some state)) (length text.seats - p - 1))
        ≤ price_by c text p (λ c. at_most c (length text.seats - p))) [
          | own f ↦ λ h. omega arith
          | by_bytes c ↦ λ h. feeds-most b w state c text p at (and_parts (all_rows (pays_row table.states b w state) (state.rows b w)) (feeds table.states b w state c) h).1
        ] h

    feeding : (o : Option (StateRows W R D)) (test : Bool) (text : Text) (k : Configuration R D) (choices : List Choice) (name : Name) → named table.states name ≡ o → nat_lt k.position (length text.seats) ≡ test
        → IsStateAt table g text o (began_unfed table.class g text k.position) k choices
        → table_cost table g text (fed text k) (Retry name) ≤ table_cost table g text k (Next name)
    feeding None test text k choices name is e h = absurd h
    feeding (Some state) true text k choices name is e h =
        let inside = ltb-true k.position (length text.seats) e in
        let (s, seat) = seat-at text k.position inside in
        let b = before_class table g text k in
        let w = table.class s.byte in
        let called = called-fed state.called k.ended (Some w) (subst (λ o. is_called_at state.called k.ended (class_of table.class (byte_of o)) ≡ true) seat h.spans.called) in
        rw (e, seat, is) (fed-costs b (Some w) state text k.position inside (state-fits table g fit b (Some w) name state is called).1)
    feeding (Some state) false text k choices name is e h =
        let past = ltb-false k.position (length text.seats) e in
        let b = before_class table g text k in
        let none : Option W = None in
        let called : is_called table.states none state ≡ true =
        called-fed state.called k.ended none (subst (λ o. is_called_at state.called k.ended (class_of table.class (byte_of o)) ≡ true) (slice_get_past text.seats k.position past) h.spans.called) in
        rw (e, is) (fed-costs b None state text k.position past (state-fits table g fit b None name state is called).1)

    pub feeding-pays : (text : Text) (k : Configuration R D) (choices : List Choice) (name : Name) → table_holds table g text k choices (Next name)
        → table_cost table g text (fed text k) (Retry name) ≤ table_cost table g text k (Next name)
    feeding-pays text k choices name h = feeding (named table.states name) (nat_lt k.position (length text.seats)) text k choices name refl refl h.1.1

    -- what a state costs that is called, with its row
    pub call-pays : (text : Text) (k : Configuration R D) (choices : List Choice) (name : Name) → table_holds table g text k choices (Retry name) → (c : IsCall table g text k choices name)
        → let left = left_by table g text k c.state in let r = row_of table g text k c.state in
        1 + (table_cost table g text left r.answer + chosen_price table early (of_class table g text k) text k.position r.acts r.answer) ≤ table_cost table g text k (Retry name)
    call-pays text k choices name h c =
        let w = of_class table g text k in
        let b = before_class table g text k in
        let s = sight g text k in
        let k1 = with_local k (table.first k.local) in
        let r = row_of table g text k c.state in
        let answer = answer-costs _ b w _ r.answer text k (left_by table g text k c.state) c.fits_it c.shape.reads.0 in
        let seen = waits-at table g k.waiting text k.position k.ended h.1.0 in
        let paid = (named-in (ArePaid table early) (λ y. PaysBy y y.cost) (λ x xs h. own-parts x.cost (λ f. PaysRows table early x) (ArePaid table early xs) h) table.states name c.state fit.paid c.is).0 in
        let within = row-within b w c.state s k1 text k.position (read-before table g text k.position h.0) (stands-at w text k c.met) seen c.called paid c.fits_calls_too in
        rw c.is (omega (arith, answer, within))
