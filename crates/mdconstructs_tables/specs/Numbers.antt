-- Costs in numbers: the author of a table gives numbers for each state, and a test compares them with its rows.
use Rattle.std.specs.Prelude.{◌≡◌, ℕ, zero, suc, ◌+◌, ◌-◌, ◌*◌, ◌==◌, ◌&&◌, not, nat_le, max, List, [], ◌∷◌, ◌++◌, Bool, true, false, cond, Option, Some, None, drop, length}
use Rattle.markdown_base.specs.declared.state.Name.{Name}
use Rattle.markdown_base.specs.declared.state.State.{State}
use Rattle.markdown_base.specs.declared.state.State.TheVariants.{Next, Retry}
use Rattle.markdown_base.specs.Virtual.{Seat}
use Rattle.markdown_tokenizer.specs.declared.waiting.AttemptKind.{AttemptKind}
use Rattle.markdown_tokenizer.specs.declared.waiting.AttemptKind.TheVariants.{Attempt, Check}
use Rattle.markdown_tokenizer.specs.Text.{Text}
use Rattle.mdconstructs_tables.specs.Rows.{Act, consume, choose, Rows, row, when, Row, own, StateRows, Table}
use Rattle.mdconstructs_tables.specs.RowTest.{is_behind, never, is_called}
use Rattle.mdconstructs_tables.specs.RowInvariant.{class_in}
use Rattle.mdconstructs_tables.specs.Fitting.{KeepsNoted}
use Rattle.mdconstructs_tables.specs.Late.{hasty}
use Rattle.mdconstructs_tables.specs.Misfits.{Reason, misfits}

-- How many calls are left: so many times the square of the number of bytes that are left, so many for each byte of the run that comes first,
-- so many for each byte behind it, and so many more
pub record Numbers : Type 0 where
  pub square : ℕ
  pub in_run : ℕ
  pub behind : ℕ
  pub more : ℕ

-- the numbers, in this order
abbrev pub numbers : (square in_run behind more : ℕ) → Numbers
numbers square in_run behind more = record { square = square; in_run = in_run; behind = behind; more = more }

-- how many calls these are, by the length of the run and the number of bytes behind it
abbrev pub calls_by : Numbers → (run behind : ℕ) → ℕ
calls_by c run behind = c.square * ((run + behind) * (run + behind)) + c.in_run * run + c.behind * behind + c.more

-- What a state costs: by the bytes that are left, so many times their square, for each, and more; by the run that comes first and the bytes
-- behind it; or by what waits. Then the first numbers are for a state that is fed next, and the others, by the bytes behind the one that
-- waits, for a state that is called.
pub data Price (W : Type 0) : Type 0 where
  by_left : (square per_byte more : ℕ) → Price W
  by_run : Numbers → Price W
  by_class : (fed : Numbers) → (called : W → Numbers) → Price W

-- the length of the longest front whose members pass a test
abbrev pub run_length : {A : Type 0} → (A → Bool) → List A → ℕ
run_length test [] = 0
run_length test (x ∷ xs) = cond (test x) (suc (run_length test xs)) 0

module _ {W : Type 0} (class : ℕ → W) (in_run : W → Bool) where
  -- how many bytes of the classes of a run come first
  abbrev pub run_at : Text → ℕ → ℕ
  run_at text p = run_length (λ (s : Seat). in_run (class s.byte)) (drop p text.seats)

  -- how many bytes are behind them
  abbrev pub behind_at : Text → ℕ → ℕ
  behind_at text p = length text.seats - p - run_at text p

  -- numbers at a place
  abbrev pub counted_at : Numbers → Text → ℕ → ℕ
  counted_at c text p = calls_by c (run_at text p) (behind_at text p)

  -- the numbers of what waits
  abbrev pub called_cost : (fed : Numbers) → (called : W → Numbers) → Text → ℕ → Option W → ℕ
  called_cost fed called text p None = fed.more
  called_cost fed called text p (Some w) = counted_at (called w) text (p + 1)

  -- the cost that a price is
  abbrev pub priced : Price W → Text → ℕ → ℕ
  priced (by_left square per_byte more) text p = let n = length text.seats - p in square * (n * n) + per_byte * n + more
  priced (by_run c) text p = counted_at c text p
  priced (by_class fed called) text p = called_cost fed called text p (class_in class text p)

-- a number that no byte adds to
abbrev pub none_more : (more : ℕ) → Numbers
none_more more = record { square = 0; in_run = 0; behind = 0; more = more }

-- the sum of two numbers of calls
abbrev pub together : Numbers → Numbers → Numbers
together a b = record { square = a.square + b.square; in_run = a.in_run + b.in_run; behind = a.behind + b.behind; more = a.more + b.more }

-- the larger of two
abbrev pub dearer : Numbers → Numbers → Numbers
dearer a b = record { square = max a.square b.square; in_run = max a.in_run b.in_run; behind = max a.behind b.behind; more = max a.more b.more }

-- numbers that are enough wherever the run ends
abbrev pub wherever : Numbers → Numbers
wherever c = record { square = c.square; in_run = max c.in_run c.behind; behind = max c.in_run c.behind; more = c.more }

-- numbers at a byte that waits, by the bytes behind it: it belongs to the run, or it does not
abbrev pub with_one_more : (in_run : Bool) → Numbers → Numbers
with_one_more in_run c =
    let each = cond in_run c.in_run c.behind in
    record { square = c.square; in_run = 2 * c.square + each; behind = 2 * c.square + c.behind; more = c.square + each + c.more }

-- some calls are at most others: each number is; at the end only the last one counts
abbrev pub are_at_most : {W : Type 0} → (current : Option W) → Numbers → Numbers → Bool
are_at_most None a b = nat_le a.more b.more
are_at_most (Some w) a b = nat_le a.square b.square && (nat_le a.in_run b.in_run && (nat_le a.behind b.behind && nat_le a.more b.more))

-- numbers in a row, as they are printed: of the square, of each byte of the run, of each byte behind it, and more
abbrev pub in_a_row : Numbers → ℕ × ℕ × ℕ × ℕ
in_a_row c = (c.square, c.in_run, c.behind, c.more)

-- Too low: what a state has is less than what a row of it takes, or, if it is fed, than what it takes once it is called. The numbers are by
-- the bytes behind the one that waits.
pub record TooLow : Type 0 where
  pub name : Name
  pub takes : ℕ × ℕ × ℕ × ℕ
  pub has : ℕ × ℕ × ℕ × ℕ

-- a state, if what it takes is more than it has
abbrev pub too_low : {W : Type 0} → Name → (current : Option W) → (takes has : Numbers) → List TooLow
too_low name w takes has = cond (are_at_most w takes has) [] (record { name = name; takes = in_a_row takes; has = in_a_row has } ∷ [])

-- the price of the state of a name, if it is one of these
abbrev pub price_named : {W R D : Type 0} → List (StateRows W R D) → List (Price W) → Name → Option (Price W)
price_named (state ∷ states) (price ∷ prices) name = cond (name.number == state.name.number) (Some price) (price_named states prices name)
price_named _ _ name = None

module _ {W : Type 0} (in_run : W → Bool) where
  -- numbers where this waits, by the bytes behind it
  abbrev pub with_waiting : Option W → Numbers → Numbers
  with_waiting None c = none_more c.more
  with_waiting (Some w) c = with_one_more (in_run w) c

  -- the numbers of a state that is fed next
  abbrev pub fed_numbers : Price W → Numbers
  fed_numbers (by_left square per_byte more) = record { square = square; in_run = per_byte; behind = per_byte; more = more }
  fed_numbers (by_run c) = c
  fed_numbers (by_class fed called) = fed

  -- the numbers of a state that is called while this waits
  abbrev pub called_numbers : Option W → Price W → Numbers
  called_numbers (Some w) (by_class fed called) = called w
  called_numbers w price = with_waiting w (fed_numbers price)

  -- the same, if there is a state
  abbrev pub fed_of : Option (Price W) → Numbers
  fed_of None = none_more 0
  fed_of (Some price) = fed_numbers price

  abbrev pub called_of : Option W → Option (Price W) → Numbers
  called_of w None = none_more 0
  called_of w (Some price) = called_numbers w price

module _ {W R D : Type 0} (table : Table W R D) (in_run : W → Bool) (prices : List (Price W)) where
  -- what a state costs that comes next: at the place of the call, a byte later, or further on
  abbrev pub next_numbers : (later : ℕ) → Option W → State → Numbers
  next_numbers zero w (Next name) = called_of in_run w (price_named table.states prices name)
  next_numbers (suc zero) w (Next name) = fed_of in_run (price_named table.states prices name)
  next_numbers (suc (suc later)) w (Next name) = wherever (fed_of in_run (price_named table.states prices name))
  next_numbers later w a = none_more 0

  -- what a choice costs that is made so many bytes later, by where Ok comes first
  abbrev pub choice_numbers : (first later : ℕ) → Option W → AttemptKind → (ok nok : State) → Numbers
  choice_numbers first later w Attempt ok nok = dearer (next_numbers first w ok) (next_numbers later w nok)
  choice_numbers first later w Check ok nok = dearer (next_numbers later w ok) (next_numbers later w nok)

  -- what the choices cost that acts make
  abbrev pub chosen_numbers : (early : Name → Option W → Bool) → (later : ℕ) → Option W → List (Act R D) → (answer : State) → Numbers
  chosen_numbers early later w [] answer = none_more 0
  chosen_numbers early later w (choose kind ok nok ∷ acts) answer =
      together (choice_numbers (cond (is_behind early w acts answer) (later + 1) later) later w kind ok nok) (chosen_numbers early later w acts answer)
  chosen_numbers early later w (consume ∷ acts) answer = chosen_numbers never (later + 1) w acts answer
  chosen_numbers early later w (act ∷ acts) answer = chosen_numbers early later w acts answer

  -- what the state costs that a row returns
  abbrev pub answer_numbers : Option W → State → Numbers
  answer_numbers w (Retry name) = called_of in_run w (price_named table.states prices name)
  answer_numbers w a = next_numbers 1 w a

  -- what a row costs: its call, the state that it returns, and its choices
  abbrev pub row_numbers : (early : Name → Option W → Bool) → Option W → Row R D → Numbers
  row_numbers early w r = together (none_more 1) (together (answer_numbers w r.answer) (chosen_numbers early 0 w r.acts r.answer))

  -- the rows that take more than a state has
  abbrev pub dear_rows : (early : Name → Option W → Bool) → Option W → Name → (has : Numbers) → Rows R D → List TooLow
  dear_rows early w name has (row acts answer) = too_low name w (row_numbers early w (record { acts = acts; answer = answer })) has
  dear_rows early w name has (when test one other) = dear_rows early w name has one ++ dear_rows early w name has other

  -- of these states, with their prices, what is too low if this was read and this waits
  abbrev pub shortages : (early : Name → Option W → Bool) → (previous current : Option W) → List (StateRows W R D) → List (Price W) → List TooLow
  shortages early b w (state ∷ states) (price ∷ others) =
      too_low state.name w (called_numbers in_run w price) (with_waiting in_run w (fed_numbers in_run price))
      ++ (cond (is_called table.states w state) (dear_rows early w state.name (called_numbers in_run w price) (state.rows b w)) [] ++ shortages early b w states others)
  shortages early b w _ _ = []

  -- each state costs what its price says
  abbrev pub ArePriced : List (StateRows W R D) → List (Price W) → Type 0
  ArePriced [] [] = Unit {0}
  ArePriced (state ∷ states) (price ∷ others) = (state.cost ≡ own (priced table.class in_run price)) × ArePriced states others
  ArePriced _ _ = ⊥

  -- a price by the bytes that are left falls the more was read
  abbrev pub is_by_left : Price W → Bool
  is_by_left (by_left square per_byte more) = true
  is_by_left _ = false

  -- the states that have to cost less later and have another price
  abbrev pub rising : (falling : Name → Bool) → List (StateRows W R D) → List (Price W) → List Name
  rising falling (state ∷ states) (price ∷ others) = cond (falling state.name && not (is_by_left price)) (state.name ∷ []) [] ++ rising falling states others
  rising falling _ _ = []

  -- three tests at once: the states that do not fit, those that end choices too early, and those whose numbers are too low
  abbrev pub priced_tests : (early : Name → Option W → Bool) → (falling : Name → Bool) → (previous current : Option W) → List (Name × Reason) × List Name × List TooLow
  priced_tests early falling b w = (misfits table b w, hasty table early falling b w, shortages early b w table.states prices)

-- The numbers of a table: each state has one price and costs that, those of `falling` cost less later, no test names a state, and what each
-- call writes first leaves the place that is noted
pub record AreEnough {W R D : Type 0} (table : Table W R D) (in_run : W → Bool) (prices : List (Price W)) (early : Name → Option W → Bool) (falling : Name → Bool) : Type 0 where
  pub priced : ArePriced table in_run prices table.states prices
  pub falls : rising table in_run prices falling table.states prices ≡ []
  pub tested : (previous current : Option W) → priced_tests table in_run prices early falling previous current ≡ ([], [], [])
  pub kept : KeepsNoted table.first
