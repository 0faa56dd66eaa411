-- Numbers that no test names as too low are enough for the calls of a table.
use Rattle.std.proofs.Common.{◌≡◌, ℕ, zero, suc, ◌+◌, ◌-◌, ◌==◌, ◌≤◌, ◌&&◌, not, List, [], ◌∷◌, ◌++◌, Bool, true, false, cond, Option, Some, None, length, refl, sym, ap, subst, arith}
use Rattle.markdown_base.specs.declared.state.Name.{Name}
use Rattle.markdown_base.specs.declared.state.State.{State}
use Rattle.markdown_base.specs.declared.state.State.TheVariants.{Next, Retry}
use Rattle.markdown_tokenizer.specs.declared.waiting.AttemptKind.{AttemptKind}
use Rattle.markdown_tokenizer.specs.declared.waiting.AttemptKind.TheVariants.{Attempt, Check}
use Rattle.markdown_tokenizer.specs.Text.{Text}
use Rattle.mdconstructs_tables.specs.Rows.{Act, consume, choose, Rows, row, when, Cost, by_bytes, own, StateRows, Table, named}
use Rattle.mdconstructs_tables.specs.RowTest.{is_behind, never, is_called}
use Rattle.mdconstructs_tables.specs.RowInvariant.{AreWithin, ArePaid, PaysRows, and_of_own, own_cost, class_in, next_price, retry_price, state_price, choice_price, chosen_price, answer_price, ends_at}
use Rattle.mdconstructs_tables.specs.Fitting.{AllFall, Falls, and_falls}
use Rattle.mdconstructs_tables.specs.Late.{IsLate}
use Rattle.mdconstructs_tables.specs.Misfits.{Reason}
use Rattle.mdconstructs_tables.specs.Numbers.{Numbers, Price, by_left, by_run, by_class, run_at, behind_at, counted_at, priced, none_more, together, are_at_most, in_a_row, TooLow, too_low, price_named, with_waiting, fed_numbers, called_numbers, fed_of, called_of, next_numbers, choice_numbers, chosen_numbers, answer_numbers, row_numbers, dear_rows, shortages, ArePriced, is_by_left, rising, AreEnough}
use Rattle.mdconstructs_tables.proofs.Numbers.Arithmetic.{together-is, dearer-most, wherever-most, left-falls}
use Rattle.mdconstructs_tables.proofs.Numbers.Places.{sum-is, counted, most-at, called-is, fed-most}
use Rattle.mdconstructs_tables.proofs.Rows.Misfits.{none-left}

-- what is not named as too low is enough
unlisted : {A : Type 0} (t : Bool) (x : A) → cond t [] (x ∷ []) ≡ [] → t ≡ true
unlisted true x h = refl
unlisted false x h = absurd (cc)

not-low : {W : Type 0} (name : Name) (w : Option W) (takes has : Numbers) → too_low name w takes has ≡ [] → are_at_most w takes has ≡ true
not-low name w takes has h = unlisted (are_at_most w takes has) (record { name = name; takes = in_a_row takes; has = in_a_row has }) h

when-true : {A : Type 0} (t : Bool) (xs : List A) → cond t xs [] ≡ [] → t ≡ true → xs ≡ []
when-true true xs h is = h
when-true false xs h is = absurd (cc)

module _ {W R D : Type 0} (table : Table W R D) (in_run : W → Bool) (prices : List (Price W)) (early : Name → Option W → Bool) where
  -- a state costs what its price says, and what it takes if it is called is enough if it is fed
  abbrev HasPrice : StateRows W R D → Price W → Type 0
  HasPrice state price = (state.cost ≡ own (priced table.class in_run price)) × ((w : Option W) → are_at_most w (called_numbers in_run w price) (with_waiting in_run w (fed_numbers in_run price)) ≡ true)

  abbrev Agree : Option (StateRows W R D) → Option (Price W) → Type 0
  Agree None None = Unit {0}
  Agree (Some state) (Some price) = HasPrice state price
  Agree _ _ = ⊥

  abbrev NoneShort : List (StateRows W R D) → List (Price W) → Type 0
  NoneShort states others = (b w : Option W) → shortages table in_run prices early b w states others ≡ []

  module _ (state : StateRows W R D) (price : Price W) (states : List (StateRows W R D)) (others : List (Price W)) (none : NoneShort (state ∷ states) (price ∷ others)) where
    fed-enough : (w : Option W) → are_at_most w (called_numbers in_run w price) (with_waiting in_run w (fed_numbers in_run price)) ≡ true
    fed-enough w = not-low state.name w _ _ (none-left (too_low state.name w (called_numbers in_run w price) (with_waiting in_run w (fed_numbers in_run price))) _ (none w w)).0

    rows-enough : (b w : Option W) → is_called table.states w state ≡ true → dear_rows table in_run prices early w state.name (called_numbers in_run w price) (state.rows b w) ≡ []
    rows-enough b w called =
        let rest = (none-left (too_low state.name w (called_numbers in_run w price) (with_waiting in_run w (fed_numbers in_run price))) _ (none b w)).1 in
        when-true (is_called table.states w state) _ (none-left (cond (is_called table.states w state) (dear_rows table in_run prices early w state.name (called_numbers in_run w price) (state.rows b w)) []) _ rest).0 called

    others-enough : NoneShort states others
    others-enough b w =
        let rest = (none-left (too_low state.name w (called_numbers in_run w price) (with_waiting in_run w (fed_numbers in_run price))) _ (none b w)).1 in
        (none-left (cond (is_called table.states w state) (dear_rows table in_run prices early w state.name (called_numbers in_run w price) (state.rows b w)) []) _ rest).1

  -- the state of a name, and its price
  agree-at : (t : Bool) (state : StateRows W R D) (price : Price W) (o : Option (StateRows W R D)) (q : Option (Price W)) → HasPrice state price → Agree o q → Agree (cond t (Some state) o) (cond t (Some price) q)
  agree-at true state price o q h k = h
  agree-at false state price o q h k = k

  agrees : (states : List (StateRows W R D)) (others : List (Price W)) → ArePriced table in_run prices states others → NoneShort states others → (name : Name) → Agree (named states name) (price_named states others name)
  agrees [] [] h none name = tt
  agrees [] (price ∷ others) h none name = absurd h
  agrees (state ∷ states) [] h none name = absurd h
  agrees (state ∷ states) (price ∷ others) h none name =
      agree-at (name.number == state.name.number) state price (named states name) (price_named states others name) (h.0, fed-enough state price states others none) (agrees states others h.1 (others-enough state price states others none) name)

  module _ (all : (name : Name) → Agree (named table.states name) (price_named table.states prices name)) where
    abbrev at : Numbers → Text → ℕ → ℕ
    at c text q = counted_at table.class in_run c text q

    own-next : (state : StateRows W R D) (price : Price W) (text : Text) (q : ℕ) → state.cost ≡ own (priced table.class in_run price) → next_price table text q (Some state) ≡ priced table.class in_run price text q
    own-next state price text q h = rw h refl

    own-retry : (state : StateRows W R D) (price : Price W) (b w : Option W) (text : Text) (q : ℕ) → state.cost ≡ own (priced table.class in_run price) → retry_price table b w text q (Some state) ≡ priced table.class in_run price text q
    own-retry state price b w text q h = rw h refl

    -- a state that comes next at a place where this waits, and one that is called there
    next-here : (o : Option (StateRows W R D)) (p : Option (Price W)) → Agree o p → (text : Text) (q : ℕ) (w : Option W) → class_in table.class text q ≡ w → next_price table text q o ≤ at (called_of in_run w p) text (q + 1)
    next-here None None h text q w is = omega arith
    next-here None (Some price) h text q w is = absurd h
    next-here (Some state) None h text q w is = absurd h
    next-here (Some state) (Some price) h text q w is = omega (arith, own-next state price text q h.0, called-is table.class in_run price text q w is)

    retry-here : (o : Option (StateRows W R D)) (p : Option (Price W)) → Agree o p → (b : Option W) (text : Text) (q : ℕ) (w : Option W) → class_in table.class text q ≡ w → retry_price table b w text q o ≤ at (called_of in_run w p) text (q + 1)
    retry-here None None h b text q w is = omega arith
    retry-here None (Some price) h b text q w is = absurd h
    retry-here (Some state) None h b text q w is = absurd h
    retry-here (Some state) (Some price) h b text q w is = omega (arith, own-retry state price b w text q h.0, called-is table.class in_run price text q w is)

    -- one that is fed next
    next-fed : (o : Option (StateRows W R D)) (p : Option (Price W)) → Agree o p → (text : Text) (q : ℕ) → next_price table text q o ≤ at (fed_of in_run p) text q
    next-fed None None h text q = omega arith
    next-fed None (Some price) h text q = absurd h
    next-fed (Some state) None h text q = absurd h
    next-fed (Some state) (Some price) h text q = let w = class_in table.class text q in omega (arith, own-next state price text q h.0, fed-most table.class in_run price text q w refl (h.1 w))

    module _ (text : Text) (p : ℕ) (w : Option W) (is : class_in table.class text p ≡ w) where
      -- so many bytes later
      next-later : (later : ℕ) (a : State) (q : ℕ) → q ≡ p + later → state_price table text q a ≤ at (next_numbers table in_run prices later w a) text (p + 1)
      next-later zero (Next name) q there =
          let same : q ≡ p = omega (arith, there) in
          rw same (next-here (named table.states name) (price_named table.states prices name) (all name) text p w is)
      next-later (suc zero) (Next name) q there = rw there (next-fed (named table.states name) (price_named table.states prices name) (all name) text (p + 1))
      next-later (suc (suc later)) (Next name) q there =
          let c = fed_of in_run (price_named table.states prices name) in
          let fed = next-fed (named table.states name) (price_named table.states prices name) (all name) text q in
          let most = wherever-most c (run_at table.class in_run text (p + 1)) (behind_at table.class in_run text (p + 1)) (run_at table.class in_run text q) (behind_at table.class in_run text q)
          (omega (arith, there, sum-is table.class in_run text q, sum-is table.class in_run text (p + 1))) in
          omega (arith, fed, most)
      next-later zero a q there = omega arith
      next-later (suc zero) a q there = omega arith
      next-later (suc (suc later)) a q there = omega arith

      answer-most : (b : Option W) (a : State) → answer_price table b w text p a ≤ at (answer_numbers table in_run prices w a) text (p + 1)
      answer-most b (Next name) = next-fed (named table.states name) (price_named table.states prices name) (all name) text (p + 1)
      answer-most b (Retry name) = retry-here (named table.states name) (price_named table.states prices name) (all name) b text p w is
      answer-most b a = omega arith

      choice-most : (kind : AttemptKind) (ok nok : State) (first later e q : ℕ) → e ≡ p + first → q ≡ p + later → choice_price table text e q kind ok nok ≤ at (choice_numbers table in_run prices first later w kind ok nok) text (p + 1)
      choice-most Attempt ok nok first later e q ahead there =
          dearer-most (state_price table text e ok) (state_price table text q nok) (next_numbers table in_run prices first w ok) (next_numbers table in_run prices later w nok) _ _ (next-later first ok e ahead) (next-later later nok q there)
      choice-most Check ok nok first later e q ahead there =
          dearer-most (state_price table text q ok) (state_price table text q nok) (next_numbers table in_run prices later w ok) (next_numbers table in_run prices later w nok) _ _ (next-later later ok q there) (next-later later nok q there)

      first-is : (t : Bool) (later q : ℕ) → q ≡ p + later → cond t (q + 1) q ≡ p + cond t (later + 1) later
      first-is true later q there = omega (arith, there)
      first-is false later q there = there

      chosen-most : (mode : Name → Option W → Bool) (acts : List (Act R D)) (a : State) (later q : ℕ) → q ≡ p + later → chosen_price table mode w text q acts a ≤ at (chosen_numbers table in_run prices mode later w acts a) text (p + 1)
      chosen-most mode [] a later q there = omega arith
      chosen-most mode (consume ∷ acts) a later q there = chosen-most never acts a (later + 1) (q + 1) (omega (arith, there))
      chosen-most mode (choose kind ok nok ∷ acts) a later q there =
          let first = cond (is_behind mode w acts a) (later + 1) later in
          let one = choice-most kind ok nok first later (ends_at mode w q acts a) q (first-is (is_behind mode w acts a) later q there) there in
          let rest = chosen-most mode acts a later q there in
          omega (arith, one, rest, together-is (choice_numbers table in_run prices first later w kind ok nok) (chosen_numbers table in_run prices mode later w acts a) (run_at table.class in_run text (p + 1)) (behind_at table.class in_run text (p + 1)))
      chosen-most mode (act ∷ acts) a later q there = chosen-most mode acts a later q there

      -- each row of a state is within what it has
      rows-most : (b : Option W) (name : Name) (has : Numbers) (total : ℕ) → at has text (p + 1) ≤ total → (rows : Rows R D) → dear_rows table in_run prices early w name has rows ≡ [] → AreWithin table early b w text p total rows
      rows-most b name has total most (row acts a) none =
          let r = run_at table.class in_run text (p + 1) in
          let s = behind_at table.class in_run text (p + 1) in
          let answered = answer_numbers table in_run prices w a in
          let chosen = chosen_numbers table in_run prices early 0 w acts a in
          let enough = most-at table.class in_run (row_numbers table in_run prices early w (record { acts = acts; answer = a })) has text p w (counted table.class in_run text p w is) (not-low name w _ _ none) in
          omega (arith, answer-most b a, chosen-most early acts a 0 p (omega arith), together-is (none_more 1) (together answered chosen) r s, together-is answered chosen r s, enough, most)
      rows-most b name has total most (when test one other) none =
          let (first, second) = none-left (dear_rows table in_run prices early w name has one) (dear_rows table in_run prices early w name has other) none in
          (rows-most b name has total most one first, rows-most b name has total most other second)

    -- what is asked of a state with a cost of its own
    asked-of : (c : Cost) (asked other : Type 0) → asked → other → and_of_own c (λ f. asked) other
    asked-of (by_bytes c) asked other h k = k
    asked-of (own f) asked other h k = (h, k)

    pays : (state : StateRows W R D) (price : Price W) → state.cost ≡ own (priced table.class in_run price)
        → ((b w : Option W) → is_called table.states w state ≡ true → dear_rows table in_run prices early w state.name (called_numbers in_run w price) (state.rows b w) ≡ []) → PaysRows table early state
    pays state price is none b w text p read stands seen called =
        let cost : own_cost state.cost text p ≡ priced table.class in_run price text p = rw is refl in
        rows-most text p w seen b state.name (called_numbers in_run w price) (own_cost state.cost text p) (omega (arith, cost, called-is table.class in_run price text p w seen)) (state.rows b w) (none b w called)

    paid : (states : List (StateRows W R D)) (others : List (Price W)) → ArePriced table in_run prices states others → NoneShort states others → ArePaid table early states
    paid [] others h none = tt
    paid (state ∷ states) [] h none = absurd h
    paid (state ∷ states) (price ∷ others) h none =
        asked-of state.cost (PaysRows table early state) (ArePaid table early states) (pays state price h.0 (rows-enough state price states others none)) (paid states others h.1 (others-enough state price states others none))

  -- prices by the bytes that are left fall
  price-falls : (price : Price W) → is_by_left table in_run prices price ≡ true → Falls (priced table.class in_run price)
  price-falls (by_left a b c) is text p q h = left-falls a b c (length text.seats - p) (length text.seats - q) (omega (arith, h))
  price-falls (by_run c) is text p q h = absurd (cc)
  price-falls (by_class fed called) is text p q h = absurd (cc)

  falls-if : (asked level : Bool) (name : Name) (f : Text → ℕ → ℕ) (other : Type 0) → (level ≡ true → Falls f) → cond (asked && not level) (name ∷ []) [] ≡ [] → other → and_falls asked (own f) other
  falls-if true true name f other h none rest = (h refl, rest)
  falls-if true false name f other h none rest = absurd (cc)
  falls-if false level name f other h none rest = rest

  pub fall : (falling : Name → Bool) (states : List (StateRows W R D)) (others : List (Price W)) → ArePriced table in_run prices states others → rising table in_run prices falling states others ≡ [] → AllFall falling states
  fall falling [] others h none = tt
  fall falling (state ∷ states) [] h none = absurd h
  fall falling (state ∷ states) (price ∷ others) h none =
      let level = is_by_left table in_run prices price in
      let (one, rest) = none-left (cond (falling state.name && not level) (state.name ∷ []) []) (rising table in_run prices falling states others) none in
      subst (λ c. and_falls (falling state.name) c (AllFall falling states)) (sym h.0)
      (falls-if (falling state.name) level state.name (priced table.class in_run price) (AllFall falling states) (price-falls price) one (fall falling states others h.1 rest))

-- a table with enough numbers fits, and ends its choices late
pub numbered-late : {W R D : Type 0} (table : Table W R D) (in_run : W → Bool) (prices : List (Price W)) (early : Name → Option W → Bool) (falling : Name → Bool) → AreEnough table in_run prices early falling → IsLate table early falling
numbered-late {W} table in_run prices early falling h =
    let none = λ (b w : Option W). ap (λ (t : List (Name × Reason) × List Name × List TooLow). t.2) (h.tested b w) in
    record {
      fit = record {
        fits = λ b w. ap (λ (t : List (Name × Reason) × List Name × List TooLow). t.0) (h.tested b w);
        paid = paid table in_run prices early (agrees table in_run prices early table.states prices h.priced none) table.states prices h.priced none;
        falls = fall table in_run prices early falling table.states prices h.priced h.falls;
        kept = h.kept;
      };
      late = λ b w. ap (λ (t : List (Name × Reason) × List Name × List TooLow). t.1) (h.tested b w);
    }
