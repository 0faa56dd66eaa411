-- What is read of inline text at once: an item, or data with the white space behind it with which its line ends. The events of these are those of the items.
use Rattle.mdinline_machine.proofs.Prelude.{trailing-break-within, white-space-within, there-holds, ◌≡◌, ◌⊎◌, inl, inr, ℕ, zero, suc, ◌+◌, ◌<◌, ◌≤◌, List, [], ◌∷◌, ◌++◌, Bool, true, false, cond, Option, Some, None, refl, sym, ap, ◌∙◌, arith, append_assoc, append-nil, length, take, take-take, drop, drop-take, drop-drop, drop-map, flat_map, prefix_len, Constructs, Data, Event, Seat, is_white, is_line_feed, Found, Grammar, first_there, if_on, or_else, item_length, item_events, bytes_of, leaf, cut_remembering, cut-remembering-enough, drop-less, has_byte_at, is_white_left, begins_run, data_length, data_run, delimiter_run, inline_item_at, line_break, marked_grammars, run_length, run_or_part, white_grammars, Memory, after_item, bracket_at, bracket_or_part, waiting_behind}
use Rattle.mdinline_machine.proofs.BracketBytes.{bracket-within, some-bracket}
use Rattle.mdinline_machine.proofs.DataBytes.{data_joined, joined_part, part-within, white_behind}
use Rattle.mdinline_machine.proofs.InlineApart.{some-item, some-white, white-unmarked}
use Rattle.mdinline_machine.proofs.PlainItems.{white-behind-plain}
use Rattle.mdinline_machine.proofs.WhiteBytes.{breaks_line, first_white, found_white, no_item, white-ends, white-goes-on, white-last, white-none, white_or, whole}

-- which labels are defined, and the bytes of the document
module _ (on : Constructs) (defined : List ℕ → Bool) (bytes : List ℕ) where
  -- What is read where neither a construct with a mark nor white space at the end of a line is, by the brackets that wait
  abbrev pub joined_behind : Memory → List ℕ → Found
  joined_behind m text = or_else (bracket_at on defined bytes m text) (joined_part on text)

  -- where no construct with a mark is
  abbrev pub joined_other : Memory → List ℕ → Found
  joined_other m text = white_or on text (joined_behind m text)

  -- and at any place
  abbrev pub joined_item_at : Memory → List ℕ → Found
  joined_item_at m text = first_there marked_grammars on text (joined_other m text)

  -- two things are alike at a text: the same, or data, and that with the white space behind it
  abbrev Alike : List ℕ → Found → Found → Type 0
  Alike text item joined = (joined ≡ item) ⊎ ((item ≡ data_run (data_length on text)) × (joined ≡ data_joined on text))

  or-alike : (text : List ℕ) (o : Option Found) (x y : Found) → Alike text x y → Alike text (or_else o x) (or_else o y)
  or-alike text None x y h = h
  or-alike text (Some a) x y h = inl refl

  first-alike : (gs : List (Grammar Found)) (text : List ℕ) (x y : Found) → Alike text x y → Alike text (first_there gs on text x) (first_there gs on text y)
  first-alike [] text x y h = h
  first-alike (g ∷ gs) text x y h = or-alike text (if_on (g.on on) (g.front text)) (first_there gs on text x) (first_there gs on text y) (first-alike gs text x y h)

  part-alike : (b : ℕ) (bs : List ℕ) → Alike (b ∷ bs) (run_or_part on (b ∷ bs)) (joined_part on (b ∷ bs))
  part-alike b bs =
      let text = b ∷ bs in
      let run = delimiter_run (run_length text) in
      let line = line_break (prefix_len is_white bs) in
      elim (begins_run on b) as (λ r. Alike text (cond r run (cond (is_line_feed b) line (data_run (data_length on text)))) (cond r run (cond (is_line_feed b) line (data_joined on text)))) [
        | true ↦ inl refl
        | false ↦ elim (is_line_feed b) as (λ t. Alike text (cond t line (data_run (data_length on text))) (cond t line (data_joined on text))) [ true ↦ inl refl | false ↦ inr (refl, refl) ]
      ]

  item-alike : (m : Memory) (b : ℕ) (bs : List ℕ) → Alike (b ∷ bs) (inline_item_at on defined bytes m (b ∷ bs)) (joined_item_at m (b ∷ bs))
  item-alike m b bs =
      let text = b ∷ bs in
      let part = bracket_or_part on defined bytes m text in
      first-alike marked_grammars text (white_or on text part) (joined_other m text)
      (first-alike white_grammars text part (joined_behind m text) (or-alike text (bracket_at on defined bytes m text) (run_or_part on text) (joined_part on text) (part-alike b bs)))

  -- ---- each is a byte at least
  some-joined : (b : ℕ) (bs : List ℕ) → 0 < item_length (joined_part on (b ∷ bs))
  some-joined b bs =
      let text = b ∷ bs in
      elim (begins_run on b) as (λ t. 0 < item_length (cond t (delimiter_run (run_length text)) (cond (is_line_feed b) (line_break (prefix_len is_white bs)) (data_joined on text)))) [
        | true ↦ omega arith
        | false ↦ elim (is_line_feed b) as (λ t. 0 < item_length (cond t (line_break (prefix_len is_white bs)) (data_joined on text))) [ true ↦ omega arith | false ↦ omega arith ]
      ]

  -- what is read is no longer than what is left
  pub other-within : (m : Memory) (b : ℕ) (bs : List ℕ) → item_length (joined_other m (b ∷ bs)) ≤ length (b ∷ bs)
  other-within m b bs =
      let whole = length (b ∷ bs) in
      there-holds (λ (item : Found). item_length item ≤ whole) white_grammars on (b ∷ bs) (joined_behind m (b ∷ bs)) (trailing-break-within b bs, (white-space-within b bs, tt))
      (bracket-within on defined bytes m b bs (joined_part on (b ∷ bs)) (part-within on b bs))

  pub some-other : (m : Memory) (b : ℕ) (bs : List ℕ) → 0 < item_length (joined_other m (b ∷ bs))
  some-other m b bs = some-white on b bs (joined_behind m (b ∷ bs)) (some-bracket on defined bytes m (b ∷ bs) (joined_part on (b ∷ bs)) (some-joined b bs))

  -- white space behind data, and what is behind both, leave the brackets that wait as they are
  abbrev behind_white : List ℕ → Memory → Memory
  behind_white bs m = after_item bytes m (white_behind on bs)

  -- nothing leaves all as it is
  nothing-behind : (m : Memory) → after_item bytes m no_item ≡ m
  nothing-behind m = λ i. record m { events = append-nil m.events i }

  -- Data, and then the white space behind it, leave what both leave at once
  at-once : (m : Memory) (l : List Seat) → m.ahead ≡ l → let n = data_length on (bytes_of l) in
      after_item bytes m (data_joined on (bytes_of l)) ≡ behind_white (drop n (bytes_of l)) (after_item bytes m (data_run n))
  at-once m l ahead =
      let n = data_length on (bytes_of l) in
      let w = white_behind on (drop n (bytes_of l)) in
      let less : n ≤ n + w.size = omega arith in
      let xs = m.ahead in
      let plain_is = white-behind-plain on (drop n (bytes_of l)) in
      let events_are : m.events ++ (leaf bytes Data (take n (take (n + w.size) xs)) ++ w.events bytes (drop n (take (n + w.size) xs))) ≡ (m.events ++ leaf bytes Data (take n xs)) ++ w.events bytes (take w.size (drop n xs)) =
      (λ i. m.events ++ (leaf bytes Data (take-take n (n + w.size) xs less i) ++ w.events bytes (drop-take n w.size xs i)))
      ∙ sym (append_assoc m.events (leaf bytes Data (take n xs)) (w.events bytes (take w.size (drop n xs)))) in
      let waiting_are : m.waiting ≡ waiting_behind w.mark (length ((m.events ++ leaf bytes Data (take n xs)) ++ w.events bytes (take w.size (drop n xs)))) m.waiting =
      sym (ap (λ mark. waiting_behind mark (length ((m.events ++ leaf bytes Data (take n xs)) ++ w.events bytes (take w.size (drop n xs)))) m.waiting) plain_is) in
      λ i. record { waiting = waiting_are i; events = events_are i; ahead = sym (drop-drop w.size n xs) i }

  -- the events of what is cut from the front
  abbrev pub events_by : (Memory → List ℕ → Found) → ℕ → Memory → List Seat → List Event
  events_by front bound m l = flat_map (item_events bytes) (cut_remembering (after_item bytes) front item_length bound m l)

  abbrev items_from : ℕ → Memory → List Seat → List Event
  items_from = events_by (inline_item_at on defined bytes)

  abbrev joined_from : ℕ → Memory → List Seat → List Event
  joined_from = events_by joined_item_at

  -- a larger bound is as good
  bound-free : (b c : ℕ) (m : Memory) (l : List Seat) → length l ≤ b → length l ≤ c → items_from b m l ≡ items_from c m l
  bound-free b c m l h i = ap (flat_map (item_events bytes)) (cut-remembering-enough (after_item bytes) (inline_item_at on defined bytes) item_length (some-item on defined bytes) b c m l h i)

  abbrev Same : ℕ → Memory → List Seat → Type 0
  Same bound m l = m.ahead ≡ l → length l ≤ bound → joined_from bound m l ≡ items_from bound m l

  -- the white space behind data is the next item
  behind-data : (c : ℕ) (m : Memory) (r : List Seat) → ((q : Memory) (l : List Seat) → Same c q l) → m.ahead ≡ r → length r ≤ c
      → let w = white_behind on (bytes_of r) in w.events bytes (take w.size r) ++ joined_from c (after_item bytes m w) (drop w.size r) ≡ items_from c m r
  behind-data c m [] more ahead fits =
      let nothing = white-last on no_item in
      ap (λ (w : Found). w.events bytes (take w.size []) ++ joined_from c (after_item bytes m w) (drop w.size [])) nothing ∙ ap (λ q. joined_from c q []) (nothing-behind m) ∙ more m [] ahead (omega arith)
  behind-data zero m (t ∷ ts) more ahead fits = absurd (omega (arith, fits))
  behind-data (suc c) m (t ∷ ts) more ahead fits =
      let r = t ∷ ts in
      let bs = bytes_of r in
      let w = white_behind on bs in
      let both : Found → List Event = λ w. w.events bytes (take w.size r) ++ joined_from (suc c) (after_item bytes m w) (drop w.size r) in
      let none : both no_item ≡ items_from (suc c) m r = ap (λ q. joined_from (suc c) q r) (nothing-behind m) ∙ more m r ahead fits in
      elim (is_white t.byte) as (λ b. is_white t.byte ≡ b → both w ≡ items_from (suc c) m r) [
        | true ↦ λ is. elim (is_white_left bs) as (λ b. is_white_left bs ≡ b → both w ≡ items_from (suc c) m r) [
          | true ↦ λ left.
              let item = inline_item_at on defined bytes m bs in
              let part = bracket_or_part on defined bytes m bs in
              let k = prefix_len is_white bs in
              let breaks = breaks_line on (whole (first_white t.byte) (bytes_of ts)) (has_byte_at bs k is_line_feed) in
              let found : item ≡ found_white breaks k = white-unmarked on t.byte (bytes_of ts) (white_or on bs part) is ∙ white-ends on t.byte (bytes_of ts) part is left in
              let same : w ≡ item = white-ends on t.byte (bytes_of ts) no_item is left ∙ sym found in
              let n = item_length item in
              let q = after_item bytes m item in
              let less : length (drop n r) ≤ length ts = drop-less n t ts (some-item on defined bytes m t.byte (bytes_of ts)) in
              let within : length (drop n r) ≤ suc c = omega (arith, less, fits) in
              let few : length (drop n r) ≤ c = omega (arith, less, fits) in
              ap both same ∙ ap (λ es. item.events bytes (take n r) ++ es) (more q (drop n r) (ap (drop n) ahead) within ∙ bound-free (suc c) c q (drop n r) within few)
          | false ↦ λ left. ap both (white-goes-on on t.byte (bytes_of ts) no_item is left) ∙ none
        ] refl
        | false ↦ λ other. ap both (white-none on t.byte (bytes_of ts) no_item other) ∙ none
      ] refl

  same-within : (bound : ℕ) (m : Memory) (l : List Seat) → Same bound m l
  same-within bound m [] ahead h = elim bound as (λ b. joined_from b m [] ≡ items_from b m []) [ zero ↦ refl | suc n ↦ refl ]
  same-within zero m (s ∷ ss) ahead h = absurd (omega (arith, h))
  same-within (suc c) m (s ∷ ss) ahead h =
      let l = s ∷ ss in
      let bs = bytes_of l in
      let joined = joined_item_at m bs in
      let item = inline_item_at on defined bytes m bs in
      let step : Found → List Event → List Event = λ i rest. i.events bytes (take i.size l) ++ rest in
      elim (item-alike m s.byte (bytes_of ss)) [
        | inl same ↦
            let less : length (drop (item_length item) l) ≤ length ss = drop-less (item_length item) s ss (some-item on defined bytes m s.byte (bytes_of ss)) in
            let more = same-within c (after_item bytes m item) (drop (item_length item) l) (ap (drop (item_length item)) ahead) (omega (arith, less, h)) in
            ap (λ (i : Found). step i (joined_from c (after_item bytes m i) (drop i.size l))) same ∙ ap (step item) more
        | inr (data_is, joined_is) ↦
            let n = data_length on bs in
            let r = drop n l in
            let q = after_item bytes m (data_run n) in
            let w = white_behind on (bytes_of r) in
            let left : drop n bs ≡ bytes_of r = drop-map (λ (x : Seat). x.byte) n l in
            let of : Found → Memory → List Event = λ w q. (leaf bytes Data (take n (take (n + w.size) l)) ++ w.events bytes (drop n (take (n + w.size) l))) ++ joined_from c q (drop (n + w.size) l) in
            let less : n ≤ n + w.size = omega arith in
            let some_data : 0 < n = omega arith in
            let fewer : length r ≤ length ss = drop-less n s ss some_data in
            let fits : length r ≤ c = omega (arith, fewer, h) in
            let rest = behind-data c q r (λ q l a h. same-within c q l a h) (ap (drop n) ahead) fits in
            ap (λ (i : Found). step i (joined_from c (after_item bytes m i) (drop i.size l))) joined_is ∙ ap (λ k. of (white_behind on (drop n bs)) k) (at-once m l ahead) ∙ ap (λ bs. of (white_behind on bs) (behind_white bs q)) left
            ∙ ap (λ xs. (leaf bytes Data xs ++ w.events bytes (drop n (take (n + w.size) l))) ++ joined_from c (after_item bytes q w) (drop (n + w.size) l)) (take-take n (n + w.size) l less)
            ∙ ap (λ xs. (leaf bytes Data (take n l) ++ w.events bytes xs) ++ joined_from c (after_item bytes q w) (drop (n + w.size) l)) (drop-take n w.size l)
            ∙ append_assoc (leaf bytes Data (take n l)) (w.events bytes (take w.size r)) (joined_from c (after_item bytes q w) (drop (n + w.size) l))
            ∙ ap (λ xs. leaf bytes Data (take n l) ++ (w.events bytes (take w.size r) ++ joined_from c (after_item bytes q w) xs)) (sym (drop-drop w.size n l))
            ∙ ap (λ es. leaf bytes Data (take n l) ++ es) rest
            ∙ sym (ap (λ (i : Found). step i (items_from c (after_item bytes m i) (drop i.size l))) data_is)
      ]

  -- So what is read at once has the events of the items
  pub joined-same : (bound : ℕ) (m : Memory) (l : List Seat) → m.ahead ≡ l → length l ≤ bound → joined_from bound m l ≡ items_from bound m l
  joined-same bound m l ahead h = same-within bound m l ahead h
