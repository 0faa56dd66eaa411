-- The machine of inline text has a twin that counts each of its calls. What the machine reads the twin reads too; so how a text is read, and in how
-- many calls, is proved of the twin.
use Rattle.mdinline_machine.proofs.Prelude.{◌≡◌, ℕ, List, [], ◌∷◌, ◌++◌, Act, Rows, StateRows, choose, consume, row, when, states_of, inline_constructs, inline_start, own_states, run_states, string_states, Option, Bool, None, Some, refl, rules, Name, Next, Ok, Configuration, Step, start_configuration, EndsIn, Reading, Sight, Given, Text, counts, Table, table_step, TextByte, backtick, digit, letter, line_feed, mark, Ending, ends-so, inlines_rules, inlines}
use Rattle.mdconstructs_tables.proofs.Tables.Twins.{twins-read-alike}
use Rattle.mdconstructs_tables.specs.Rows.{enters, exit, exit_noted, enter_noted, links, note, writes}
use Rattle.mdconstructs_tables.specs.Twins.{ActsBlind, IsBlind, RowsBlind, StatesBlind, reading_sized, twin}
use Rattle.mdinline_machine.specs.BracketRows.{bracket_states}
use Rattle.mdinline_text_machine.proofs.Texts.Leads.{EndsWith}

-- the table of the twin
abbrev pub counted : (defined : List ℕ → Bool) → Table TextByte Unit Unit
counted defined = twin counts (inlines defined)

abbrev pub counted_step : (defined : List ℕ → Bool) → Given → Sight → Configuration Unit Unit → Name → Step Unit Unit
counted_step defined g = table_step (counted defined) g

-- blind acts, rows and states are so whatever else holds behind them
acts-more : (acts : List (Act Unit Unit)) (P Q : Type 0) → (P → Q) → ActsBlind acts P → ActsBlind acts Q
acts-more [] P Q f h = f h
acts-more (links previous next ∷ acts) P Q f h = (h.0, (h.1.0, acts-more acts P Q f h.1.1))
acts-more (writes w ∷ acts) P Q f h = (h.0, acts-more acts P Q f h.1)
acts-more (enters name link ∷ acts) P Q f h = acts-more acts P Q f h
acts-more (exit name ∷ acts) P Q f h = acts-more acts P Q f h
acts-more (consume ∷ acts) P Q f h = acts-more acts P Q f h
acts-more (choose kind ok nok ∷ acts) P Q f h = acts-more acts P Q f h
acts-more (note ∷ acts) P Q f h = acts-more acts P Q f h
acts-more (exit_noted name ∷ acts) P Q f h = acts-more acts P Q f h
acts-more (enter_noted name ∷ acts) P Q f h = acts-more acts P Q f h

rows-more : (rows : Rows Unit Unit) (P Q : Type 0) → (P → Q) → RowsBlind rows P → RowsBlind rows Q
rows-more (row acts answer) P Q f h = acts-more acts P Q f h
rows-more (when test one other) P Q f h = (h.0, rows-more one (RowsBlind other P) (RowsBlind other Q) (rows-more other P Q f) h.1)

both-blind : (xs ys : List (StateRows TextByte Unit Unit)) (b w : Option TextByte) → StatesBlind xs b w → StatesBlind ys b w → StatesBlind (xs ++ ys) b w
both-blind [] ys b w h k = k
both-blind (x ∷ xs) ys b w h k = rows-more (x.rows b w) (StatesBlind xs b w) (StatesBlind (xs ++ ys) b w) (λ h. both-blind xs ys b w h k) h

-- all states but those of brackets and resources
abbrev pub unbracketed_states : List (StateRows TextByte Unit Unit)
unbracketed_states = string_states ++ (run_states ++ inline_start ∷ (own_states ++ states_of inline_constructs))

-- no row looks at the count or writes it
blind-others : (b w : Option TextByte) → StatesBlind unbracketed_states b w
blind-others b None = search rules
blind-others b (Some line_feed) = search rules
blind-others b (Some backtick) = search rules
blind-others b (Some letter) = search rules
blind-others b (Some digit) = search rules
blind-others b (Some mark) = search rules
blind-others b (Some _) = search rules

blind-brackets : (defined : List ℕ → Bool) (b w : Option TextByte) → StatesBlind (bracket_states {R = Unit {0}} {D = Unit {0}} defined) b w
blind-brackets defined b None = search rules
blind-brackets defined b (Some _) = search rules

blind : (defined : List ℕ → Bool) → IsBlind (inlines defined)
blind defined b w = both-blind unbracketed_states (bracket_states defined) b w (blind-others b w) (blind-brackets defined b w)

module _ (defined : List ℕ → Bool) (g : Given) (text : Text) (flag : Bool) (start : Name) where
  -- from its starts the machine reads as its twin does
  pub twin-reads : (r : Reading Unit Unit) → EndsIn g (inlines_rules defined g).step text 0 (start_configuration flag) [] (Next start) r
      → (n : ℕ) × EndsIn g (counted_step defined g) text 0 (start_configuration flag) [] (Next start) (reading_sized n r)
  twin-reads r ends = twins-read-alike (inlines defined) counts (blind defined) (λ local. refl) (λ local. (_, refl)) g text 0 (start_configuration flag) 0 [] (Next start) r ends

  -- and what the twin ends with the machine ends with
  pub ends-as-counted : (e : Ending) → EndsWith g text (counted_step defined g) (start_configuration flag) [] (Next start) e
      → (r : Reading Unit Unit) → EndsIn g (inlines_rules defined g).step text 0 (start_configuration flag) [] (Next start) r → (r.answer ≡ Ok) × (r.configuration.events ≡ e.events)
  ends-as-counted e h r ends =
      let there = twin-reads r ends in
      ends-so g text (counted_step defined g) (start_configuration flag) (Next start) e h (reading_sized there.0 r) there.1
