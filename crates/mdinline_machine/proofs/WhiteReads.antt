-- How the machine of inline text reads white space: its place is noted, and behind it there is a span from that place on, or data.
use Rattle.mdinline_text_machine.proofs.Plain.Stretches.{past}
use Rattle.mdinline_machine.proofs.Prelude.{as_asked, ◌≡◌, ℕ, suc, ◌+◌, ◌<◌, ◌≤◌, not, List, [], ◌∷◌, ◌++◌, Bool, true, false, cond, Option, Some, None, refl, sym, ap, ◌∙◌, subst, arith, append_assoc, length, take, drop, length-map, prefix_len-le-length, prefix_len, slice_get, drop-next, Event, Enter, Exit, EventName, Data, Name, State, Next, Retry, DataInside, TextBefore, Seat, Byte, Nothing, Local, Configuration, byte_of, end_place, sight, Given, Text, with_local, is_white, counts, at-front, held, first_byte, goes-back, goes-next, leaf-read, past-at, past-stops, sees, shows, passes, IsAfter, after-call, after-more, after-none, after-within, EndsWith, Leads, Plays, between_items, bytes_of, event, leaf, is_line_feed, is_space, ends_data, has_byte_at, is_white_left, leads-step, byte-behind, AddsItemIn, entered_data, between_texts, Ending, item_length, item_events, Point, sight_in, consumed, entered, exited, noting, place_of, Noted}
use Rattle.mdinline_machine.proofs.WhiteBytes.{White, breaks_line, first_white, found_white, further, white_name, whole}

-- the place that was noted
abbrev pub noted_in : Local Unit Unit → Noted
noted_in local = local.noted

module _ (g : Given) (text : Text) (m : Plays g text) where
  -- a call, what it makes of the configuration, and the state that it returns
  abbrev Does : Configuration Unit Unit → Name → Configuration Unit Unit → State → Type 0
  Does k name after answer = m.step (sight g text k) k name ≡ record { configuration = after; choices = []; answer = answer }

  -- it counts the call
  abbrev pub counted : Configuration Unit Unit → Configuration Unit Unit
  counted k = with_local k (counts k.local)

  -- The state notes the place, reads the byte, and goes on with another; or it reads the byte
  abbrev pub NotesTo : Configuration Unit Unit → Name → Name → Type 0
  NotesTo k name next = Does k name (consumed (noting (place_of (sight g text k)) (counted k))) (Next next)

  abbrev pub ReadsTo : Configuration Unit Unit → Name → Name → Type 0
  ReadsTo k name next = Does k name (consumed (counted k)) (Next next)

  -- a span of a name begins at the noted place, and ends here
  abbrev pub MakesWhite : Configuration Unit Unit → Name → EventName → Type 0
  MakesWhite k name white = Does k name (exited white (sight g text k).exit_place (entered white None (noted_in k.local).enter (counted k))) (Retry TextBefore)

  -- data ends there before
  abbrev pub EndsData : Configuration Unit Unit → Name → EventName → Type 0
  EndsData k name white =
      Does k name (exited white (sight g text k).exit_place (entered white None (noted_in k.local).enter (exited Data (noted_in k.local).exit (counted k)))) (Retry TextBefore)

  -- data ends here
  abbrev pub StopsData : Configuration Unit Unit → Name → Type 0
  StopsData k name = Does k name (exited Data (sight g text k).exit_place (counted k)) (Retry TextBefore)

  -- data begins there
  abbrev pub BeginsNoted : Configuration Unit Unit → Name → Type 0
  BeginsNoted k name = Does k name (entered Data None (noted_in k.local).enter (counted k)) (Retry DataInside)

  -- another state is called
  abbrev pub CallsOn : Configuration Unit Unit → Name → Name → Type 0
  CallsOn k name next = Does k name (counted k) (Retry next)

-- the line ends: a line ending waits, or nothing
abbrev pub ends_line : Option ℕ → Bool
ends_line o = not (passes (λ b. not (is_line_feed b)) o)

-- a byte behind which it goes on is no line ending
pub no-line : (b : ℕ) → ends_line (Some b) ≡ false → is_line_feed b ≡ false
no-line b h = elim (is_line_feed b) as (λ t. not (not t) ≡ false → t ≡ false) [ true ↦ λ i. i | false ↦ λ i. refl ] h

-- How the machine reads white space, by its states: without data before it, by these names, and with data, by the others
pub record PlaysWhite (g : Given) (text : Text) (m : Plays g text) (plain in_data : White → Name) : Type 0 where
  pub plain_begins : (k : Configuration Unit Unit) (b : ℕ) → (sight g text k).current ≡ Some b → is_white b ≡ true → NotesTo g text m k TextBefore (plain (first_white b))
  pub data_begins : (k : Configuration Unit Unit) (b : ℕ) → (sight g text k).current ≡ Some b → is_white b ≡ true → NotesTo g text m k DataInside (in_data (first_white b))
  pub plain_on : (w : White) (k : Configuration Unit Unit) (b : ℕ) → (sight g text k).current ≡ Some b → is_white b ≡ true → ReadsTo g text m k (plain w) (plain (further w (is_space b)))
  pub data_on : (w : White) (k : Configuration Unit Unit) (b : ℕ) → (sight g text k).current ≡ Some b → is_white b ≡ true → ReadsTo g text m k (in_data w) (in_data (further w (is_space b)))
  pub plain_ends : (w : White) (k : Configuration Unit Unit) (o : Option ℕ) → (sight g text k).current ≡ o → ends_line o ≡ true
      → MakesWhite g text m k (plain w) (white_name (breaks_line g.options.constructs w (passes is_line_feed o)))
  pub data_ends : (w : White) (k : Configuration Unit Unit) (o : Option ℕ) → (sight g text k).current ≡ o → ends_line o ≡ true
      → EndsData g text m k (in_data w) (white_name (breaks_line g.options.constructs w (passes is_line_feed o)))
  pub plain_other : (w : White) (k : Configuration Unit Unit) (b : ℕ) → (sight g text k).current ≡ Some b → is_white b ≡ false → is_line_feed b ≡ false → BeginsNoted g text m k (plain w)
  pub data_special : (w : White) (k : Configuration Unit Unit) (b : ℕ) → (sight g text k).current ≡ Some b → is_white b ≡ false → is_line_feed b ≡ false → ends_data g.options.constructs b ≡ true
      → CallsOn g text m k (in_data w) DataInside
  pub inside_on : (k : Configuration Unit Unit) (b : ℕ) → (sight g text k).current ≡ Some b → is_white b ≡ false → ends_data g.options.constructs b ≡ false → ReadsTo g text m k DataInside DataInside
  pub inside_ends : (k : Configuration Unit Unit) (b : ℕ) → (sight g text k).current ≡ Some b → is_white b ≡ false → ends_data g.options.constructs b ≡ true → StopsData g text m k DataInside
  pub inside_ends_last : (k : Configuration Unit Unit) → (sight g text k).current ≡ None → StopsData g text m k DataInside
  pub data_other : (w : White) (k : Configuration Unit Unit) (b : ℕ) → (sight g text k).current ≡ Some b → is_white b ≡ false → ends_data g.options.constructs b ≡ false → ReadsTo g text m k (in_data w) DataInside

module _ (g : Given) (text : Text) (m : Plays g text) where
  -- over white space a place that was noted stays
  module _ (names : White → Name) (stack : List EventName) (on : (w : White) (k : Configuration Unit Unit) (b : ℕ) → (sight g text k).current ≡ Some b → is_white b ≡ true → ReadsTo g text m k (names w) (names (further w (is_space b)))) where
    abbrev pub Stretched : White → List Seat → (q q' : ℕ) → List Event → Local Unit Unit → Type 0
    Stretched w l q q' events local =
        (after : Local Unit Unit) × IsAfter (prefix_len is_white (bytes_of l)) local after × (noted_in after ≡ noted_in local)
        × Leads g text m (shows l stack q events local) [] (Retry (names w)) (shows (past is_white l) stack q' events after) [] (Retry (names (whole w (bytes_of l))))

    pub stretch : (l : List Seat) (w : White) (q q' : ℕ) (events : List Event) (local : Local Unit Unit) → drop q text.seats ≡ l → q' ≡ q + prefix_len is_white (bytes_of l) → Stretched w l q q' events local
    stretch [] w q q' events local at is =
        let same : q ≡ q' = omega (arith, is) in
        (local, after-none local, refl, subst (λ n. Leads g text m (shows [] stack q events local) [] (Retry (names w)) (shows [] stack n events local) [] (Retry (names w))) same (λ es h. h))
    stretch (s ∷ ss) w q q' events local at is =
        let l = s ∷ ss in
        elim (is_white s.byte) as (λ t. is_white s.byte ≡ t → q' ≡ q + cond t (1 + prefix_len is_white (bytes_of ss)) 0
        → (after : Local Unit Unit) × IsAfter (cond t (1 + prefix_len is_white (bytes_of ss)) 0) local after × (noted_in after ≡ noted_in local)
        × Leads g text m (shows l stack q events local) [] (Retry (names w)) (shows (cond t (past is_white ss) l) stack q' events after) [] (Retry (names (cond t (whole (further w (is_space s.byte)) (bytes_of ss)) w)))) [
          | true ↦ λ e i.
              let next = drop-next text.seats q s ss at in
              let k = shows l stack q events local in
              let v = further w (is_space s.byte) in
              let more : Stretched v ss (q + 1) q' events (counts local) = stretch ss v (q + 1) q' events (counts local) next (omega (arith, i)) in (
                more.0,
                after-more 1 (prefix_len is_white (bytes_of ss)) local (counts local) more.0 (after-call local) more.1,
                more.2,
                λ es h.
                    leads-step as_asked g text m.step k [] (names w) (record { configuration = consumed (counted g text m k); choices = []; answer = Next (names v) }) (on w k s.byte (ap byte_of (at-front text.seats q s ss at)) e) es
                    (goes-next g text m ss stack (q + 1) events (counts local) [] (names v) next es (more.3 es h)),
              )
          | false ↦ λ e i.
              let same : q ≡ q' = omega (arith, i) in
              (local, after-none local, refl, subst (λ n. Leads g text m (shows l stack q events local) [] (Retry (names w)) (shows l stack n events local) [] (Retry (names w))) same (λ es h. h))
        ] refl is

  -- ---- events
  -- a span from a noted place on is a span over the bytes that were read
  white-made : (before : List Event) (n q : ℕ) (s : Seat) (ss : List Seat) (name : EventName) (x : Point) → drop q text.seats ≡ s ∷ ss → 0 < n → n ≤ suc (length ss) → x ≡ (place_of (sight_in g text q Byte)).enter
      → (before ++ record { kind = Enter; name = name; point = x; link = None } ∷ []) ++ event g.bytes Exit name (end_place text (q + n)) ∷ [] ≡ before ++ leaf g.bytes name (take n (s ∷ ss))
  white-made before n q s ss name x here some inside is =
      ap (λ x. (before ++ record { kind = Enter; name = name; point = x; link = None } ∷ []) ++ event g.bytes Exit name (end_place text (q + n)) ∷ []) is
      ∙ append_assoc before _ _ ∙ ap (λ xs. before ++ xs) (leaf-read text g.bytes name n q s ss here some inside)

  -- what is found is that span
  pub as-found : (breaks : Bool) (n q : ℕ) (before : List Event) (l : List Seat) (local : Local Unit Unit) (es : Ending)
      → (let w = found_white breaks n in EndsWith g text m (between_items (q + item_length w) Nothing false (before ++ item_events g.bytes (w, take (item_length w) l)) local) [] (Next TextBefore) es)
      → EndsWith g text m (between_items (q + n) Nothing false (before ++ leaf g.bytes (white_name breaks) (take n l)) local) [] (Next TextBefore) es
  as-found true n q before l local es h = h
  as-found false n q before l local es h = h

  module _ {plain inside : White → Name} (w : PlaysWhite g text m plain inside) (s : Seat) (ss : List Seat) (q : ℕ) (here : drop q text.seats ≡ s ∷ ss) (is : is_white s.byte ≡ true) where
    -- the bytes, and the white space at their front
    abbrev l : List Seat
    l = s ∷ ss

    abbrev n : ℕ
    n = prefix_len is_white (bytes_of l)

    abbrev pub rest : List Seat
    rest = past is_white ss

    -- what it is
    abbrev pub all_white : White
    all_white = whole (first_white s.byte) (bytes_of ss)

    length-is : n ≡ 1 + prefix_len is_white (bytes_of ss)
    length-is = ap (λ t. cond t (1 + prefix_len is_white (bytes_of ss)) 0) is

    inside-l : n ≤ suc (length ss)
    inside-l = omega (arith, prefix_len-le-length is_white (bytes_of l), length-map l (λ x. x.byte))

    some-n : 0 < n
    some-n = omega (arith, length-is)

    pub rest-is : past is_white l ≡ rest
    rest-is = ap (λ t. cond t (past is_white ss) l) is

    pub rest-at : drop (q + n) text.seats ≡ rest
    rest-at = past-at g text m is_white l q (q + n) here refl ∙ rest-is

    -- what follows it
    behind-is : slice_get (bytes_of l) n ≡ first_byte rest
    behind-is = byte-behind text.seats q n l rest here rest-at

    pub followed : is_white_left (bytes_of l) ≡ ends_line (first_byte rest)
    followed = ap ends_line behind-is

    line-is : has_byte_at (bytes_of l) n is_line_feed ≡ passes is_line_feed (first_byte rest)
    line-is = ap (passes is_line_feed) behind-is

    -- whether it is a hard break, if its line ends with it
    abbrev pub breaks_here : Bool
    breaks_here = breaks_line g.options.constructs all_white (has_byte_at (bytes_of l) n is_line_feed)

    -- what states share once the place is noted
    abbrev pub noted_here : Local Unit Unit → Local Unit Unit
    noted_here local = (noting (place_of (sight_in g text q Byte)) (held [] q Byte false [] (counts local))).local

    after-noted : (local : Local Unit Unit) → IsAfter 1 local (noted_here local)
    after-noted local = record { calls = omega arith; same = refl }

    -- From a state that notes the place, by one of these names, white space is read to its end
    abbrev pub ToRest : (names : White → Name) (stack : List EventName) (ended : Bool) (events : List Event) (local : Local Unit Unit) → Name → Type 0
    ToRest names stack ended events local name =
        (after : Local Unit Unit) × IsAfter n local after × (noted_in after ≡ place_of (sight_in g text q Byte))
        × Leads g text m (held stack q Byte ended events local) [] (Retry name) (shows rest stack (q + n) events after) [] (Retry (names all_white))

    pub to-rest : (names : White → Name) (stack : List EventName) (on : (w : White) (k : Configuration Unit Unit) (b : ℕ) → (sight g text k).current ≡ Some b → is_white b ≡ true → ReadsTo g text m k (names w) (names (further w (is_space b))))
        → (ended : Bool) (events : List Event) (local : Local Unit Unit) (name : Name)
        → ((k : Configuration Unit Unit) (b : ℕ) → (sight g text k).current ≡ Some b → is_white b ≡ true → NotesTo g text m k name (names (first_white b)))
        → ToRest names stack ended events local name
    to-rest names stack on ended events local name begins =
        let next = drop-next text.seats q s ss here in
        let k = held stack q Byte ended events local in
        let v = first_white s.byte in
        let place : q + n ≡ q + 1 + prefix_len is_white (bytes_of ss) = omega (arith, length-is) in
        let more = stretch names stack on ss v (q + 1) (q + n) events (noted_here local) next place in
        let total : 1 + prefix_len is_white (bytes_of ss) ≤ n = omega (arith, length-is) in (
          more.0,
          after-within (1 + prefix_len is_white (bytes_of ss)) n local more.0 total (after-more 1 (prefix_len is_white (bytes_of ss)) local (noted_here local) more.0 (after-noted local) more.1),
          more.2,
          λ es h.
              leads-step as_asked g text m.step k [] name (record { configuration = consumed (noting (place_of (sight g text k)) (counted g text m k)); choices = []; answer = Next (names v) }) (begins k s.byte (ap byte_of (at-front text.seats q s ss here)) is) es
              (goes-next g text m ss stack (q + 1) events (noted_here local) [] (names v) next es (more.3 es h)),
        )

    -- White space with which its line ends is read, with its event
    pub reads-white-end : is_white_left (bytes_of l) ≡ true → (ended : Bool) (events : List Event) (local : Local Unit Unit)
        → AddsItemIn g text m between_texts (n + 1) (between_items q Byte ended events local) (Retry TextBefore) q events l (found_white breaks_here n)
    reads-white-end left ended events local =
        let read = to-rest plain [] w.plain_on ended events local TextBefore w.plain_begins in
        let k = shows rest [] (q + n) events read.0 in
        let name = white_name breaks_here in
        let same : white_name (breaks_line g.options.constructs all_white (passes is_line_feed (first_byte rest))) ≡ name = ap (λ t. white_name (breaks_line g.options.constructs all_white t)) (sym line-is) in
        let does : MakesWhite g text m k (plain all_white) name = subst (MakesWhite g text m k (plain all_white)) same (w.plain_ends all_white k (first_byte rest) (sees g text m rest (q + n) rest-at) (sym followed ∙ left)) in
        let made = white-made events n q s ss name (noted_in read.0).enter here some-n inside-l (ap (λ (x : Noted). x.enter) read.2) in (
          false,
          counts read.0,
          after-more n 1 local read.0 (counts read.0) read.1 (after-call read.0),
          λ es h.
              read.3 es
              (leads-step as_asked g text m.step k [] (plain all_white) (record { configuration = exited name (sight g text k).exit_place (entered name None (noted_in k.local).enter (counted g text m k)); choices = []; answer = Retry TextBefore }) does es
              (subst (λ xs. EndsWith g text m (shows rest [] (q + n) xs (counts read.0)) [] (Retry TextBefore) es) (sym made)
              (goes-back g text m rest [] (q + n) (events ++ leaf g.bytes name (take n l)) (counts read.0) [] TextBefore rest-at es (as-found breaks_here n q events l (counts read.0) es h)))),
        )

    -- So it is where data is open: that ends where it begins
    pub data-made : is_white_left (bytes_of l) ≡ true → (events : List Event) (local : Local Unit Unit)
        → (after : Local Unit Unit) × IsAfter (n + 1) local after
        × Leads g text m (shows l (Data ∷ []) q events local) [] (Retry DataInside)
        (between_items (q + n) Nothing false ((events ++ event g.bytes Exit Data (end_place text q) ∷ []) ++ leaf g.bytes (white_name breaks_here) (take n l)) after) [] (Next TextBefore)
    data-made left events local =
        let st = Data ∷ [] in
        let read = to-rest inside st w.data_on false events local DataInside w.data_begins in
        let k = shows rest st (q + n) events read.0 in
        let name = white_name breaks_here in
        let same : white_name (breaks_line g.options.constructs all_white (passes is_line_feed (first_byte rest))) ≡ name = ap (λ t. white_name (breaks_line g.options.constructs all_white t)) (sym line-is) in
        let does : EndsData g text m k (inside all_white) name = subst (EndsData g text m k (inside all_white)) same (w.data_ends all_white k (first_byte rest) (sees g text m rest (q + n) rest-at) (sym followed ∙ left)) in
        let ended : Point → List Event = λ x. events ++ record { kind = Exit; name = Data; point = x; link = None } ∷ [] in
        let before = ended (place_of (sight_in g text q Byte)).exit in
        let noted = noted_in read.0 in
        let made = ap (λ (x : Noted). (ended x.exit ++ record { kind = Enter; name = name; point = noted.enter; link = None } ∷ []) ++ event g.bytes Exit name (end_place text (q + n)) ∷ []) read.2
        ∙ white-made before n q s ss name noted.enter here some-n inside-l (ap (λ (x : Noted). x.enter) read.2) in (
          counts read.0,
          after-more n 1 local read.0 (counts read.0) read.1 (after-call read.0),
          λ es h.
              read.3 es
              (leads-step as_asked g text m.step k [] (inside all_white)
              (record { configuration = exited name (sight g text k).exit_place (entered name None noted.enter (exited Data noted.exit (counted g text m k))); choices = []; answer = Retry TextBefore }) does es
              (subst (λ xs. EndsWith g text m (shows rest [] (q + n) xs (counts read.0)) [] (Retry TextBefore) es) (sym made)
              (goes-back g text m rest [] (q + n) (before ++ leaf g.bytes name (take n l)) (counts read.0) [] TextBefore rest-at es h))),
        )

    -- a byte that goes on in the line
    some-byte : (o : Option ℕ) → ends_line o ≡ false → passes is_white o ≡ false → (b : ℕ) × (o ≡ Some b) × (is_white b ≡ false) × (is_line_feed b ≡ false)
    some-byte None goes other = absurd (cc)
    some-byte (Some b) goes other = (b, refl, other, no-line b goes)

    -- If more of the line is left, data begins with the white space
    pub begins-data : is_white_left (bytes_of l) ≡ false → (ended : Bool) (events : List Event) (local : Local Unit Unit)
        → (after : Local Unit Unit) × IsAfter (n + 1) local after
        × Leads g text m (between_items q Byte ended events local) [] (Retry TextBefore) (shows rest (Data ∷ []) (q + n) (entered_data g text m between_texts events q) after) [] (Retry DataInside)
    begins-data left ended events local =
        let read = to-rest plain [] w.plain_on ended events local TextBefore w.plain_begins in
        let k = shows rest [] (q + n) events read.0 in
        let byte = some-byte (first_byte rest) (sym followed ∙ left) (past-stops is_white ss) in
        let does = w.plain_other all_white k byte.0 (sees g text m rest (q + n) rest-at ∙ byte.1) byte.2 byte.3 in
        let noted = noted_in read.0 in
        let begun : Point → List Event = λ x. events ++ record { kind = Enter; name = Data; point = x; link = None } ∷ [] in (
          counts read.0,
          after-more n 1 local read.0 (counts read.0) read.1 (after-call read.0),
          λ es h.
              read.3 es
              (leads-step as_asked g text m.step k [] (plain all_white) (record { configuration = entered Data None noted.enter (counted g text m k); choices = []; answer = Retry DataInside }) does es
              (subst (λ (x : Noted). EndsWith g text m (shows rest (Data ∷ []) (q + n) (begun x.enter) (counts read.0)) [] (Retry DataInside) es) (sym read.2) h)),
        )
