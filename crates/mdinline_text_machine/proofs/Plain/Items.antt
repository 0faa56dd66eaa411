-- Plain data, and an item at a byte: if no construct is there, data is read, a backtick string or one byte, and all up to the next byte at which
-- another item may begin.
use Rattle.mdinline_text_machine.proofs.Prelude.{at-front, ◌≡◌, ℕ, ◌+◌, ◌∷◌, ◌++◌, [], List, Bool, true, false, sym, ◌∙◌, ap, subst, arith, Option, Some, None, length, take, drop, slice_get, Event, Name, State, Next, Retry, Nok, TextBeforeData, Between, Construct, between_texts, Seat, Nothing, Byte, Given, Text, Configuration, Local, Choice, sight, byte_of, class_of, counts, refl, Found, plain_run, part, item_length, plain_length, Rows, TextByte, row, row_step, text_byte, bytes_of, item_events, suc, ◌≤◌, cond, max, not, add_assoc, not-true, append_assoc, drop-drop, drop-map, drop-next, length-drop, length-map, prefix_len-le-length, prefix_len, position_or_len, Enter, Exit, Data, DataAtBreak, DataInside, point_or, end_place, is_backtick, backticks, backtick, event, leaf, text_before_data_rows, data_at_break_rows, exit, consume, passes, held}
use Rattle.markdown_base.specs.declared.event.Name.{Name as EventName}
use Rattle.mdinline_text_machine.proofs.Texts.Steps.{Plays, PlaysData, BeginsData, EndsWith, Leads, between_items, leads-nok, leads-row, leads-seen, before_class}
use Rattle.mdinline_text_machine.proofs.Plain.Classes.{tick-class, run-ended}
use Rattle.mdinline_text_machine.proofs.Plain.Stretches.{shows, first_byte, sees, past, passed, past-stops, past-is, leaf-read, past-at, goes-next, goes-back, class-rows, loops, loops-from}
use Rattle.mdinline_text_machine.specs.Parts.{first_plain}
use Rattle.mdinline_text_machine.proofs.Constructs.Listed.{outer}
use Rattle.mdinline_text_machine.proofs.Plain.Passed.{after-passed}
use Rattle.mdinline_text_machine.proofs.Texts.Counted.{IsAfter, after-call, after-more, after-within}
use Rattle.mdinline_text_machine.proofs.Texts.Reads.{AddsItem, DecidesPart, ReadsPart}

module _ (g : Given) (text : Text) (m : Plays g text) (names : Between) where
  -- data begins at the byte that waits
  abbrev pub entered_data : List Event → ℕ → List Event
  entered_data events p = events ++ event g.bytes Enter Data (point_or text.end (slice_get text.seats p)) ∷ []

  -- with its first bytes, which were read in two calls more than they are
  abbrev HasBegun : (p : ℕ) → Bool → List Event → Local Unit Unit → List Seat → (n : ℕ) → Type 0
  HasBegun p ended events local l n =
      (after : Local Unit Unit) × IsAfter (n + 2) local after
      × Leads g text m (between_items p Byte ended events local) [] (Retry names.before_data) (shows (drop n l) (Data ∷ []) (p + n) (entered_data events p) after) [] (Retry names.inside)

module _ (g : Given) (text : Text) (m : Plays g text) (b : BeginsData g text m) where
  -- a whole backtick string, or another byte
  pub data-begun : (p : ℕ) (ended : Bool) (events : List Event) (local : Local Unit Unit) (s : Seat) (ss : List Seat) → drop p text.seats ≡ s ∷ ss
      → HasBegun g text m between_texts p ended events local (s ∷ ss) (first_plain (bytes_of (s ∷ ss)))
  data-begun p ended events local s ss here =
      let l = s ∷ ss in
      let r = backticks (bytes_of ss) in
      let at = at-front text.seats p s ss here in
      let begun = entered_data g text m between_texts events p in
      elim (is_backtick s.byte) as (λ t. is_backtick s.byte ≡ t → HasBegun g text m between_texts p ended events local l (max 1 (cond t (1 + r) 0))) [
        | true ↦ λ is.
            let size : backticks (bytes_of l) ≡ 1 + r = ap (λ t. cond t (1 + r) 0) is in
            let first : backticks (bytes_of l) ≡ max 1 (1 + r) = omega (arith, size) in
            let place : p + max 1 (1 + r) ≡ p + backticks (bytes_of l) = omega (arith, size) in
            let q = p + max 1 (1 + r) in
            let rest = past is_backtick l in
            let after = passed is_backtick counts l (counts local) in
            let k = prefix_len is_backtick (bytes_of l) in
            let read : IsAfter (1 + k) local after = after-more 1 k local (counts local) after (after-call local) (after-passed counts after-call is_backtick l (counts local)) in (
              counts after,
              after-within (1 + k + 1) (max 1 (1 + r) + 2) local (counts after) (omega (arith, size)) (after-more (1 + k) 1 local after (counts after) read (after-call after)),
              λ es h.
                  leads-seen g text m text_before_data_rows (between_items p Byte ended events local) [] TextBeforeData es (ap byte_of at)
                  (class-rows g text m text_before_data_rows p s backtick (tick-class s.byte is)) (b.text_before_data _)
                  (loops-from g text m (Data ∷ []) [] DataAtBreak is_backtick counts
                  (λ q ended events local s at is es.
                  leads-seen g text m data_at_break_rows (held (Data ∷ []) q Byte ended events local) [] DataAtBreak es (ap byte_of at)
                  (class-rows g text m data_at_break_rows q s backtick (tick-class s.byte is)) (b.data_at_break _))
                  s ss p q ended begun (counts local) here is place es
                  (leads-seen g text m data_at_break_rows (shows rest (Data ∷ []) q begun after) [] DataAtBreak es (sees g text m rest q (past-at g text m is_backtick l p q here place))
                  (run-ended (before_class g text q) (first_byte rest) (past-stops is_backtick l)).5 (b.data_at_break _)
                  (subst (λ l. EndsWith g text m (shows l (Data ∷ []) q begun (counts after)) [] (Retry DataInside) es) (sym (past-is is_backtick l ∙ ap (λ n. drop n l) first)) h))),
            )
        | false ↦ λ other. (
          counts local,
          after-within 1 (max 1 0 + 2) local (counts local) (omega arith) (after-call local),
          λ es h.
              leads-seen g text m text_before_data_rows (between_items p Byte ended events local) [] TextBeforeData es (ap byte_of at) (run-ended (before_class g text p) (Some s.byte) other).6 (b.text_before_data _)
              (goes-next g text m ss (Data ∷ []) (p + 1) begun (counts local) [] DataInside (drop-next text.seats p s ss here) es h),
        )
      ] refl

module _ (g : Given) (text : Text) (m : Plays g text) (names : Between) where
  -- From a state in which a construct is tried at a byte: if it is there, it is read, with its events; if not, another state
  -- follows at the byte, and what was tried leaves nothing
  abbrev pub Decides : (nok : Name) (p : ℕ) (ended : Bool) (events : List Event) → List Seat → Configuration Unit Unit → List Choice → State → Option Found → Type 0
  Decides nok p ended events seats k cs s None = (after : Local Unit Unit) × Leads g text m k cs s (between_items p Nothing ended events after) [] (Next nok)
  Decides nok p ended events seats k cs s (Some item) =
      (ended_after : Bool) × (after : Local Unit Unit)
      × Leads g text m k cs s (between_items (p + item_length item) Nothing ended_after (events ++ item_events g.bytes (item, take (item_length item) seats)) after) [] (Next names.home)

  -- so it is decided, by a machine with no memory
  pub decided-so : (nok : Name) (p : ℕ) (ended : Bool) (events : List Event) (seats : List Seat) (k : Configuration Unit Unit) (cs : List Choice) (s : State) (o : Option Found)
      → Decides nok p ended events seats k cs s o → DecidesPart g text m names nok p ended events seats k cs s o
  decided-so nok p ended events seats k cs s None d = (d.0, tt, d.1)
  decided-so nok p ended events seats k cs s (Some item) d = (d.0, d.1, tt, d.2)

  -- The same, within so many calls, and with what is remembered as it was
  abbrev pub DecidesIn : (n : ℕ) (nok : Name) (p : ℕ) (ended : Bool) (events : List Event) → List Seat → Configuration Unit Unit → List Choice → State → Option Found → Type 0
  DecidesIn n nok p ended events seats k cs s None = (after : Local Unit Unit) × IsAfter n k.local after × Leads g text m k cs s (between_items p Nothing ended events after) [] (Next nok)
  DecidesIn n nok p ended events seats k cs s (Some item) =
      (ended_after : Bool) × (after : Local Unit Unit) × IsAfter n k.local after
      × Leads g text m k cs s (between_items (p + item_length item) Nothing ended_after (events ++ item_events g.bytes (item, take (item_length item) seats)) after) [] (Next names.home)

  -- from the first state of a construct
  abbrev pub TriedIn : (n : ℕ) → Name → (nok : Name) (p : ℕ) (ended : Bool) (events : List Event) (local : Local Unit Unit) → List Seat → Option Found → Type 0
  TriedIn n name nok p ended events local seats o = DecidesIn n nok p ended events seats (between_items p Byte ended events local) (outer names.home nok p ended events ∷ []) (Retry name) o

  -- The theorem of a construct within so many calls, by the bytes from where it is tried
  abbrev pub ReadsIn : (calls : List ℕ → ℕ) → Construct Found TextByte Unit Unit → Type 0
  ReadsIn calls c =
      (nok : Name) (p : ℕ) (ended : Bool) (events : List Event) (local : Local Unit Unit) (s : Seat) (ss : List Seat) → drop p text.seats ≡ s ∷ ss → c.grammar.first s.byte ≡ true
      → TriedIn (calls (bytes_of (s ∷ ss))) c.start nok p ended events local (s ∷ ss) (c.grammar.front (bytes_of (s ∷ ss)))

  -- more calls may be counted
  pub decides-more : (n : ℕ) (n' : ℕ) (nok : Name) (p : ℕ) (ended : Bool) (events : List Event) (seats : List Seat) (k : Configuration Unit Unit) (cs : List Choice) (s : State) (o : Option Found) → n ≤ n'
      → DecidesIn n nok p ended events seats k cs s o → DecidesIn n' nok p ended events seats k cs s o
  decides-more n n' nok p ended events seats k cs s None h d = (d.0, after-within n n' k.local d.0 h d.1, d.2)
  decides-more n n' nok p ended events seats k cs s (Some item) h d = (d.0, d.1, after-within n n' k.local d.1 h d.2, d.3)

  -- what is decided further on is decided here, with the calls up to there
  pub decides-in : (n : ℕ) (n' : ℕ) (nok : Name) (p : ℕ) (ended : Bool) (events : List Event) (seats : List Seat) (k k' : Configuration Unit Unit) (cs cs' : List Choice) (s s' : State) (o : Option Found)
      → IsAfter n k.local k'.local → Leads g text m k cs s k' cs' s' → DecidesIn n' nok p ended events seats k' cs' s' o → DecidesIn (n + n') nok p ended events seats k cs s o
  decides-in n n' nok p ended events seats k k' cs cs' s s' None first leads d = (d.0, after-more n n' k.local k'.local d.0 first d.1, λ e h. leads e (d.2 e h))
  decides-in n n' nok p ended events seats k k' cs cs' s s' (Some item) first leads d = (d.0, d.1, after-more n n' k.local k'.local d.1 first d.2, λ e h. leads e (d.3 e h))

  -- An item is read within so many calls, with its events, and what is remembered is as it was
  abbrev pub AddsItemIn : (n : ℕ) → Configuration Unit Unit → State → (p : ℕ) (events : List Event) → List Seat → Found → Type 0
  AddsItemIn n k s p events seats item =
      (ended_after : Bool) × (after : Local Unit Unit) × IsAfter n k.local after
      × Leads g text m k [] s (between_items (p + item_length item) Nothing ended_after (events ++ item_events g.bytes (item, take (item_length item) seats)) after) [] (Next names.home)

  -- more calls may be counted, and so it is read
  pub adds-more : (n : ℕ) (n' : ℕ) (k : Configuration Unit Unit) (s : State) (p : ℕ) (events : List Event) (seats : List Seat) (item : Found) → n ≤ n' → AddsItemIn n k s p events seats item → AddsItemIn n' k s p events seats item
  adds-more n n' k s p events seats item h a = (a.0, a.1, after-within n n' k.local a.1 h a.2, a.3)

  pub adds-of : (n : ℕ) (k : Configuration Unit Unit) (s : State) (p : ℕ) (events : List Event) (seats : List Seat) (item : Found) → AddsItemIn n k s p events seats item → AddsItem g text m names k s p events seats item
  adds-of n k s p events seats item a = (a.0, a.1, tt, a.3)

  -- and with these calls no more than so many
  pub decides-within : (n n' most : ℕ) (nok : Name) (p : ℕ) (ended : Bool) (events : List Event) (seats : List Seat) (k k' : Configuration Unit Unit) (cs cs' : List Choice) (s s' : State) (o : Option Found)
      → n + n' ≤ most → IsAfter n k.local k'.local → Leads g text m k cs s k' cs' s' → DecidesIn n' nok p ended events seats k' cs' s' o → DecidesIn most nok p ended events seats k cs s o
  decides-within n n' most nok p ended events seats k k' cs cs' s s' o fits first leads d =
      decides-more (n + n') most nok p ended events seats k cs s o fits (decides-in n n' nok p ended events seats k k' cs cs' s s' o first leads d)

  -- Within so many calls, it is decided
  pub decides-of : (n : ℕ) (nok : Name) (p : ℕ) (ended : Bool) (events : List Event) (seats : List Seat) (k : Configuration Unit Unit) (cs : List Choice) (s : State) (o : Option Found)
      → DecidesIn n nok p ended events seats k cs s o → Decides nok p ended events seats k cs s o
  decides-of n nok p ended events seats k cs s None d = (d.0, d.2)
  decides-of n nok p ended events seats k cs s (Some item) d = (d.0, d.1, d.3)

  pub reads-of : (calls : List ℕ → ℕ) (c : Construct Found TextByte Unit Unit) → ReadsIn calls c → ReadsPart g text m names c
  reads-of calls c reads nok p ended events local s ss here first knows =
      let k = between_items p Byte ended events local in
      let cs = outer names.home nok p ended events ∷ [] in
      let o = c.grammar.front (bytes_of (s ∷ ss)) in
      decided-so nok p ended events (s ∷ ss) k cs (Retry c.start) o (decides-of (calls (bytes_of (s ∷ ss))) nok p ended events (s ∷ ss) k cs (Retry c.start) o (reads nok p ended events local s ss here first))

  -- what was tried is put back
  pub puts-back : (nok : Name) (p : ℕ) (ended : Bool) (events : List Event) (k : Configuration Unit Unit) → take (length events) k.events ≡ events
      → Leads g text m k (outer names.home nok p ended events ∷ []) Nok (between_items p Nothing ended events k.local) [] (Next nok)
  puts-back nok p ended events k kept es h =
      leads-nok g text m k (outer names.home nok p ended events) [] es (subst (λ l. EndsWith g text m (between_items p Nothing ended l k.local) [] (Next nok) es) (sym kept) h)

  -- by a state whose row fails, whatever waits
  pub refused : (table : (previous current : Option TextByte) → Rows Unit Unit) (name : Name)
      → ((k : Configuration Unit Unit) → m.step (sight g text k) k name ≡ row_step g text k (table (class_of text_byte (sight g text k).previous) (class_of text_byte (sight g text k).current)))
      → (nok : Name) (p : ℕ) (ended : Bool) (events : List Event) (l : List Seat) (stack : List EventName) (q : ℕ) (begun : List Event) (local : Local Unit Unit) → drop q text.seats ≡ l
      → table (before_class g text q) (class_of text_byte (first_byte l)) ≡ row [] Nok → take (length events) begun ≡ events
      → Leads g text m (shows l stack q begun local) (outer names.home nok p ended events ∷ []) (Retry name) (between_items p Nothing ended events (counts local)) [] (Next nok)
  refused table name has nok p ended events l stack q begun local at fails kept es h =
      leads-seen g text m table (shows l stack q begun local) (outer names.home nok p ended events ∷ []) name es (sees g text m l q at) fails (has (shows l stack q begun local))
      (puts-back nok p ended events (shows l stack q begun (counts local)) kept es h)

module _ (g : Given) (text : Text) (m : Plays g text) (names : Between) (d : PlaysData g text m names) where
  -- a byte at which no other item may begin
  abbrev is_plain : ℕ → Bool
  is_plain b = not (d.special b)

  -- plain data: these first bytes, and as much as there is
  abbrev pub plain_from : ℕ → List Seat → Found
  plain_from n seats = part (plain_run (n + position_or_len d.special (drop n (bytes_of seats))))

  -- data that has begun with its first bytes is read, with its events, in three calls more than it has bytes
  pub reads-begun : (p : ℕ) (ended : Bool) (events : List Event) (between : Local Unit Unit) (s : Seat) (ss : List Seat) → drop p text.seats ≡ s ∷ ss
      → (n : ℕ) → 1 ≤ n → n ≤ suc (length ss) → HasBegun g text m names p ended events between (s ∷ ss) n
      → AddsItemIn g text m names (item_length (plain_from n (s ∷ ss)) + 3) (between_items p Byte ended events between) (Retry names.before_data) p events (s ∷ ss) (plain_from n (s ∷ ss))
  reads-begun p ended events between s ss here n some short begun =
      let bytes = bytes_of (s ∷ ss) in
      let whole = n + position_or_len d.special (drop n bytes) in
      let l = drop n (s ∷ ss) in
      let q = p + whole in
      let behind : drop (p + n) text.seats ≡ l = sym (drop-drop n p text.seats) ∙ ap (drop n) here in
      let total : p + n + prefix_len is_plain (bytes_of l) ≡ q =
      add_assoc p n (prefix_len is_plain (bytes_of l)) ∙ ap (λ xs. p + (n + prefix_len is_plain xs)) (sym (drop-map (λ (x : Seat). x.byte) n (s ∷ ss))) in
      let size : length bytes ≡ suc (length ss) = length-map (s ∷ ss) (λ x. x.byte) in
      let entered = entered_data g text m names events p in
      let read = passed is_plain counts l begun.0 in
      let k = prefix_len is_plain (bytes_of l) in
      let first : IsAfter (n + 2 + k) between read = after-more (n + 2) k between begun.0 read begun.1 (after-passed counts after-call is_plain l begun.0) in
      let rest = past is_plain l in
      let there = past-at g text m is_plain l (p + n) q behind (sym total) in
      let made = entered ++ event g.bytes Exit Data (end_place text q) ∷ [] in
      let same : made ≡ events ++ leaf g.bytes Data (take whole (s ∷ ss)) =
      append_assoc events _ _ ∙ ap (λ es. events ++ es) (leaf-read text g.bytes Data whole p s ss here (omega (arith, some))
      (omega (arith, some, short, prefix_len-le-length is_plain (drop n bytes), length-drop n bytes, size))) in (
        false,
        counts read,
        after-within (n + 2 + k + 1) (whole + 3) between (counts read) (omega (arith, total)) (after-more (n + 2 + k) 1 between read (counts read) first (after-call read)),
        λ es h.
            begun.2 es
            (loops g text m (Data ∷ []) [] names.inside is_plain counts
            (λ q ended events local s at is es.
            leads-row g text m (row (consume ∷ []) (Next names.inside)) (held (Data ∷ []) q Byte ended events local) [] names.inside es
            (d.data_goes_on (held (Data ∷ []) q Byte ended events local) s.byte (ap byte_of at) (not-true (d.special s.byte) is)))
            l (p + n) q entered begun.0 behind (sym total) es
            (leads-row g text m (row (exit Data ∷ []) (Retry names.home)) (shows rest (Data ∷ []) q entered read) [] names.inside es
            (d.data_ends (shows rest (Data ∷ []) q entered read) (ap (passes is_plain) (sees g text m rest q there) ∙ past-stops is_plain l))
            (goes-back g text m rest [] q made (counts read) [] names.home there es
            (subst (λ l. EndsWith g text m (between_items q Nothing false l (counts read)) [] (Next names.home) es) (sym same) h)))),
      )

module _ (g : Given) (text : Text) (m : Plays g text) (d : PlaysData g text m between_texts) (b : BeginsData g text m) where
  -- plain data of texts, as much as there is
  abbrev pub plain_of : List Seat → Found
  plain_of seats = part (plain_run (plain_length d.special (bytes_of seats)))

  -- data of texts is read, with its events, in three calls more than it has bytes
  pub reads-data-in : (p : ℕ) (ended : Bool) (events : List Event) (between : Local Unit Unit) (s : Seat) (ss : List Seat) → drop p text.seats ≡ s ∷ ss
      → AddsItemIn g text m between_texts (item_length (plain_of (s ∷ ss)) + 3) (between_items p Byte ended events between) (Retry TextBeforeData) p events (s ∷ ss) (plain_of (s ∷ ss))
  reads-data-in p ended events between s ss here =
      let bytes = bytes_of (s ∷ ss) in
      let size : length bytes ≡ suc (length ss) = length-map (s ∷ ss) (λ x. x.byte) in
      reads-begun g text m between_texts d p ended events between s ss here (first_plain bytes) (omega arith) (omega (arith, prefix_len-le-length is_backtick bytes, size))
      (data-begun g text m b p ended events between s ss here)

  pub reads-data : (p : ℕ) (ended : Bool) (events : List Event) (between : Local Unit Unit) (s : Seat) (ss : List Seat) → drop p text.seats ≡ s ∷ ss
      → AddsItem g text m between_texts (between_items p Byte ended events between) (Retry TextBeforeData) p events (s ∷ ss) (plain_of (s ∷ ss))
  reads-data p ended events between s ss here =
      adds-of g text m between_texts (item_length (plain_of (s ∷ ss)) + 3) (between_items p Byte ended events between) (Retry TextBeforeData) p events (s ∷ ss) (plain_of (s ∷ ss)) (reads-data-in p ended events between s ss here)
