-- In how many calls the machine of inline text reads a string: at most so many for each virtual byte.
use Rattle.mdinline_constructs.proofs.StringItems.{some-part}
use Rattle.mdinline_machine.proofs.Prelude.{◌≡◌, ℕ, suc, ◌+◌, ◌*◌, ◌<◌, ◌≤◌, not, List, [], ◌∷◌, Bool, true, false, cond, Option, Some, None, refl, sym, ap, ◌∙◌, subst, arith, drop, length, flat_map, drop-drop, length-drop, length-map, prefix_len-le-length, Event, Name, State, Next, Retry, StringBefore, StringBeforeData, StringStart, Seat, Byte, Nothing, Choice, Local, start_configuration, whole_text, Given, Text, counts, is_line_feed, Construct, Found, item_length, bytes_of, line_ending, part, TextByte, text_byte, item_events, IsApart, OfOption, AddsFrom, DecidesTo, IsKept, IsListed, Knowledge, items-read, escape_calls, escapes-reads-in, AddsItemIn, DecidesIn, ReadsIn, after-call, cut-same, drop-less, spent, EndsWith, Plays, between_items, reference_calls, references-read-in, RunsWithin, is_string_special, string_data, string_events, string_item_at, string_part, between_strings, string_constructs}
use Rattle.mdinline_machine.proofs.InlinesCounted.{calls-within}
use Rattle.mdinline_machine.proofs.Playing.{inlines_play, inlines_play_references}
use Rattle.mdinline_machine.proofs.Starts.{from-registering-in, start_local}
use Rattle.mdinline_machine.proofs.StringReads.{ReadsBefore, ReadsKnown, data-read-in, line-read-in, string-apart, string_escapes, string_references, strings-listed}

-- how many calls a construct of strings takes at most
abbrev pub most_tried : ℕ
most_tried = 40

-- how many calls are paid by each virtual byte of a string: both constructs are tried, and its byte is read
abbrev pub calls_a_byte : ℕ
calls_a_byte = 87

-- parts of strings are no longer than what is left
pub string-part-within : (b : ℕ) (bs : List ℕ) → item_length (string_part (b ∷ bs)) ≤ suc (length bs)
string-part-within b bs = elim (is_line_feed b) as (λ t. item_length (cond t (part line_ending) (string_data (b ∷ bs))) ≤ suc (length bs)) [
  | true ↦ omega arith
  | false ↦ omega (arith, prefix_len-le-length (λ c. not (is_string_special c)) bs)
]

module _ (defined : List ℕ → Bool) (g : Given) (text : Text) (budget : ℕ) where
  abbrev m : Plays g text
  m = inlines_play defined g text

  -- what is left of the string
  abbrev left : ℕ → ℕ
  left p = length (drop p text.seats)

  -- What is known: that what was spent and what is left to pay is within a budget. Before an item a call is put aside for the end of the string; the
  -- first byte of an item pays for the constructs that may still be tried, and for data
  abbrev pub within_budget : Knowledge Found TextByte (Unit {0})
  within_budget = record {
    after_item = λ n item. n;
    knows = λ n p events local. spent local + calls_a_byte * left p + 1 ≤ budget;
    tries = λ n cs p events local. spent local + calls_a_byte * left p + 41 * length cs + 6 ≤ budget + calls_a_byte;
    at_data = λ n p events local. spent local + calls_a_byte * left p + 5 ≤ budget + calls_a_byte;
  }

  pub budget-kept : IsKept g text within_budget
  budget-kept = record {
    passes = λ n c cs p events local s ss here none h. omega (arith, h);
    to_data = λ n p events local h. (let once = after-call local in omega (arith, h, once.calls));
  }

  -- behind an item less is left
  left-less : (p n : ℕ) (s : Seat) (ss : List Seat) → drop p text.seats ≡ s ∷ ss → left (p + n) ≡ length (drop n (s ∷ ss))
  left-less p n s ss here = ap length (sym (drop-drop n p text.seats) ∙ ap (drop n) here)

  module _ (c : Construct Found TextByte Unit Unit) (cs : List (Construct Found TextByte Unit Unit)) (p : ℕ) (events : List Event) (local : Local Unit Unit) (s : Seat) (ss : List Seat) (here : drop p text.seats ≡ s ∷ ss)
      (knows : within_budget.tries tt (c ∷ cs) p events local) where
    -- a construct that is decided within so many calls leaves the others paid, or is paid by its first byte
    paid : (n : ℕ) → n ≤ most_tried → (nok : Name) (ended : Bool) (choices : List Choice) (state : State) (o : Option Found) → OfOption (λ (item : Found). 0 < item_length item) o
        → DecidesIn g text m between_strings n nok p ended events (s ∷ ss) (between_items p Byte ended events (counts local)) choices state o
        → DecidesTo g text m.step between_strings text_byte item_length (item_events g.bytes) within_budget tt cs nok p ended events (s ∷ ss) (between_items p Byte ended events (counts local)) choices state o
    paid n few nok ended choices state None some d =
        let once = after-call local in (d.0, omega (arith, few, knows, once.calls, d.1.calls), d.2)
    paid n few nok ended choices state (Some item) some d =
        let once = after-call local in
        let size = item_length item in
        let less : left (p + size) ≤ length ss = omega (arith, left-less p size s ss here, drop-less size s ss some) in
        let now : left p ≡ suc (length ss) = ap length here in
        (d.0, d.1, omega (arith, few, knows, once.calls, d.2.calls, less, now), d.3)

  pub reads-paid : (c : Construct Found TextByte Unit Unit) (cs : List (Construct Found TextByte Unit Unit)) (calls : List ℕ → ℕ) → ((bs : List ℕ) → calls bs ≤ most_tried) → IsApart text_byte item_length c
      → ReadsIn g text m between_strings calls c → ReadsBefore defined g text within_budget c cs
  reads-paid c cs calls few apart reads nok p ended events local s ss here first is_on knows =
      paid c cs p events local s ss here knows (calls (bytes_of (s ∷ ss))) (few (bytes_of (s ∷ ss))) nok ended _ _ (c.grammar.front (bytes_of (s ∷ ss))) (apart.some s.byte (bytes_of ss))
      (reads nok p ended events (counts local) s ss here first)

  -- a part is paid by its bytes
  part-paid : (name : Name) (p : ℕ) (ended : Bool) (events : List Event) (local : Local Unit Unit) (s : Seat) (ss : List Seat) → drop p text.seats ≡ s ∷ ss → within_budget.at_data tt p events local
      → (item : Found) → 0 < item_length item → item_length item ≤ suc (length ss) → AddsItemIn g text m between_strings (item_length item + 3) (between_items p Byte ended events local) (Retry name) p events (s ∷ ss) item
      → AddsFrom g text m.step between_strings text_byte item_length (item_events g.bytes) within_budget tt (between_items p Byte ended events local) (Retry name) p events (s ∷ ss) item
  part-paid name p ended events local s ss here knows item some short read =
      let size = item_length item in
      let rest : left (p + size) + size ≡ suc (length ss) = omega (arith, left-less p size s ss here, length-drop size (s ∷ ss), short) in
      let now : left p ≡ suc (length ss) = ap length here in
      (read.0, read.1, omega (arith, knows, read.2.calls, rest, now, some), read.3)

  pub data-paid : (Knows : ℕ → List Event → Local Unit Unit → Type 0) → ((p : ℕ) (events : List Event) (local : Local Unit Unit) → Knows p events local → within_budget.at_data tt p events local)
      → ReadsKnown defined g text within_budget Knows StringBeforeData (λ b. is_line_feed b ≡ false) string_part
  data-paid Knows pays p ended events local s ss here plain knows =
      let item = string_part (bytes_of (s ∷ ss)) in
      part-paid StringBeforeData p ended events local s ss here (pays p events local knows) item (some-part s.byte (bytes_of ss))
      (omega (arith, string-part-within s.byte (bytes_of ss), length-map ss (λ x. x.byte))) (data-read-in defined g text p ended events local s ss here plain)

  pub line-paid : ReadsKnown defined g text within_budget (within_budget.knows tt) StringBefore (λ b. is_line_feed b ≡ true) string_part
  line-paid p ended events local s ss here line knows =
      let item = string_part (bytes_of (s ∷ ss)) in
      part-paid StringBefore p ended events local s ss here (omega (arith, knows)) item (some-part s.byte (bytes_of ss))
      (omega (arith, string-part-within s.byte (bytes_of ss), length-map ss (λ x. x.byte))) (line-read-in defined g text p ended events local s ss here line)

module _ (defined : List ℕ → Bool) (g : Given) (text : Text) where
  abbrev plays : Plays g text
  plays = inlines_play defined g text

  -- so many calls are enough: those of the bytes, the first and the last
  abbrev pub string_budget : ℕ
  string_budget = calls_a_byte * length text.seats + 2

  abbrev known : Knowledge Found TextByte (Unit {0})
  known = within_budget defined g text string_budget

  listed-in : IsListed g text plays.step between_strings text_byte item_length (item_events g.bytes) known is_line_feed (λ n. string_part) (λ n. string_constructs) string_budget
  listed-in =
      strings-listed defined g text known string_budget (λ p events local s ss here plain knows. omega (arith, knows)) (λ p events local knows. (let once = after-call local in omega (arith, knows, once.calls)))
      (reads-paid defined g text string_budget string_escapes (string_references ∷ []) escape_calls (λ bs. omega arith) string-apart.0 (escapes-reads-in g text plays between_strings))
      (reads-paid defined g text string_budget string_references [] reference_calls (λ bs. omega arith) string-apart.1.0 (references-read-in g text plays (inlines_play_references defined g text) between_strings))
      (λ cs. data-paid defined g text string_budget (known.tries tt cs) (λ p events local h. omega (arith, h))) (data-paid defined g text string_budget (known.at_data tt) (λ p events local h. h)) (line-paid defined g text string_budget)

  -- between constructs, before the first byte, all items are to be read
  from-between : (local : Local Unit Unit) → spent local ≤ 1 → EndsWith g text plays (between_items 0 Nothing false [] local) [] (Next StringBefore) (record { events = string_events g text; spent = string_budget })
  from-between local few =
      subst (λ items. EndsWith g text plays (between_items 0 Nothing false [] local) [] (Next StringBefore) (record { events = flat_map (item_events g.bytes) items; spent = string_budget }))
      (cut-same (string_item_at g.options.constructs) item_length (length text.seats) tt text.seats)
      (items-read g text plays.step between_strings text_byte item_length (item_events g.bytes) known is_line_feed (λ n. string_part) (budget-kept defined g text string_budget) (λ n. string_constructs) string_budget listed-in
      (length text.seats) 0 tt false [] local text.seats refl (omega arith) (omega (arith, few)))

  -- A string is read from its start in so many calls
  pub strings-within : (flag : Bool) → EndsWith g text plays (start_configuration flag) [] (Next StringStart) (record { events = string_events g text; spent = string_budget })
  strings-within flag =
      let none : spent (start_local flag) ≡ 0 = refl in
      from-registering-in g text plays StringStart StringBefore (λ k. refl) (record { events = string_events g text; spent = string_budget }) flag (λ local once. from-between local (omega (arith, none, once.calls)))

-- So a run makes no more
pub strings-are-linear : RunsWithin StringStart (λ n. 87 * n + 2)
strings-are-linear defined g resolving events sub document run few =
    let text = whole_text g in
    calls-within defined g text false StringStart (record { events = string_events g text; spent = string_budget defined g text }) (strings-within defined g text false) few run.result run.ends
