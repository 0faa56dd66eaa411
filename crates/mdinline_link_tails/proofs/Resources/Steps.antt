-- How a machine reads resources, in small steps: what is found is found from further on, within so many calls.
use Rattle.mdinline_link_tails.proofs.Prelude.{◌≡◌, ℕ, ◌+◌, ◌-◌, ◌*◌, ◌≤◌, List, [], ◌∷◌, ◌++◌, Bool, true, false, Option, Some, None, refl, sym, ap, ◌∙◌, subst, arith, take, drop, length, length-drop, slice_get, take_at, drop-next, Event, Enter, Exit, EventName, Name, Next, Retry, Ok, Nok, LabelEndResourceStart, LabelEndResourceBefore, LabelEndResourceOpen, LabelEndResourceDestinationAfter, LabelEndResourceEnd, DestinationEnclosedBefore, DestinationEnclosed, DestinationEnclosedEscape, DestinationRaw, DestinationRawEscape, TitleStart, TitleBegin, TitleAfterEol, TitleInside, TitleEscape, Seat, Given, Text, Byte, Nothing, Choice, Configuration, Local, Sight, sight, byte_of, with_local, counts, end_or, end_place, point_or, row_step, at-front, held, shows, goes-next, Ending, EndsWith, HasRow, HasRows, Leads, Plays, before_class, between_items, leads-row, tested, Found, item_length, class_of, text_byte, Rows, row, when, passes, append_assoc, leaf, LineEnding}
use Rattle.mdconstructs_machines.specs.Spans.{event}
use Rattle.mdinline_text_machine.specs.TextEvents.{item_events}
use Rattle.mdinline_text_machine.proofs.Texts.Steps.{WithRows}
use Rattle.mdinline_link_tails.specs.declared.names.TheConstants.{ResourceGapWhite, ResourceGapLine, ResourceGapLineWhite, ResourceDestinationEnd, ResourceTitleWhite, ResourceTitleEnd}
use Rattle.mdinline_link_tails.specs.ResourceRows.{at_bytes_only, resource_start_rows, resource_before_rows, gap_white_rows, gap_line_rows, gap_line_white_rows, resource_open_rows, enclosed_before_rows, enclosed_rows, enclosed_escape_rows, destination_end_rows, raw_rows, raw_escape_rows, destination_after_rows, title_start_rows, title_begin_rows, title_inside_rows, title_escape_rows, title_line_rows, title_white_rows, title_end_rows, resource_end_rows}
use Rattle.mdinline_link_tails.proofs.Resources.Touched.{Touches, touched-call, Leaves, leaves-more}

-- A machine that reads resources: at the names of their states it does what their rows say
pub record PlaysResources (g : Given) (text : Text) (m : Plays g text) : Type 0 where
  pub start : HasRows g text m.step LabelEndResourceStart (at_bytes_only resource_start_rows)
  pub gap : HasRows g text m.step LabelEndResourceBefore (at_bytes_only resource_before_rows)
  pub white : HasRows g text m.step ResourceGapWhite (at_bytes_only gap_white_rows)
  pub line : HasRows g text m.step ResourceGapLine (at_bytes_only gap_line_rows)
  pub line_white : HasRows g text m.step ResourceGapLineWhite (at_bytes_only gap_line_white_rows)
  pub opens : HasRows g text m.step LabelEndResourceOpen (at_bytes_only resource_open_rows)
  pub enclosed_before : HasRows g text m.step DestinationEnclosedBefore (at_bytes_only enclosed_before_rows)
  pub enclosed : HasRows g text m.step DestinationEnclosed (at_bytes_only enclosed_rows)
  pub enclosed_escape : HasRows g text m.step DestinationEnclosedEscape (at_bytes_only enclosed_escape_rows)
  pub destination_end : HasRows g text m.step ResourceDestinationEnd (at_bytes_only destination_end_rows)
  pub raw : HasRows g text m.step DestinationRaw (at_bytes_only raw_rows)
  pub raw_escape : HasRows g text m.step DestinationRawEscape (at_bytes_only raw_escape_rows)
  pub destination_after : HasRows g text m.step LabelEndResourceDestinationAfter (at_bytes_only destination_after_rows)
  pub title_start : HasRows g text m.step TitleStart (at_bytes_only title_start_rows)
  pub title_begin : HasRows g text m.step TitleBegin (at_bytes_only title_begin_rows)
  pub title_inside : HasRows g text m.step TitleInside (at_bytes_only title_inside_rows)
  pub title_escape : HasRows g text m.step TitleEscape (at_bytes_only title_escape_rows)
  pub title_line : HasRows g text m.step TitleAfterEol (at_bytes_only title_line_rows)
  pub title_white : HasRows g text m.step ResourceTitleWhite (at_bytes_only title_white_rows)
  pub title_end : HasRows g text m.step ResourceTitleEnd (at_bytes_only title_end_rows)
  pub ending : HasRows g text m.step LabelEndResourceEnd (at_bytes_only resource_end_rows)

module _ (g : Given) (text : Text) where
  -- events at a byte that waits, at one that was read in the same call, and behind what was read before
  abbrev pub enters_at : EventName → ℕ → Event
  enters_at name q = event g.bytes Enter name (point_or text.end (slice_get text.seats q))

  abbrev pub exits_past : EventName → ℕ → Event
  exits_past name q = event g.bytes Exit name (end_or text.end (slice_get text.seats q))

  abbrev pub exits_at : EventName → ℕ → Event
  exits_at name q = event g.bytes Exit name (end_place text q)

  -- a line ending is a span of its own
  pub line-ending-read : (es : List Event) (q : ℕ) (y : Seat) (ys : List Seat) → drop q text.seats ≡ y ∷ ys
      → (es ++ enters_at LineEnding q ∷ []) ++ exits_past LineEnding q ∷ [] ≡ es ++ leaf g.bytes LineEnding (y ∷ [])
  line-ending-read es q y ys at =
      append_assoc es (enters_at LineEnding q ∷ []) (exits_past LineEnding q ∷ [])
      ∙ ap (λ o. es ++ event g.bytes Enter LineEnding (point_or text.end o) ∷ event g.bytes Exit LineEnding (end_or text.end o) ∷ []) (at-front text.seats q y ys at)

module _ (g : Given) (text : Text) (m : Plays g text) where
  -- the call of a state does what rows say
  pub record Does (k : Configuration Unit Unit) (name : Name) (rows : Rows Unit Unit) : Type 0 where
    pub row_is : HasRow g text m.step k name rows

  -- of two rows a test picks one
  pub yes : {test : Given → Sight → Configuration Unit Unit → Bool} {a b : Rows Unit Unit} (k : Configuration Unit Unit) (name : Name) → Does k name (when test a b)
      → test g (sight g text k) (with_local k (counts k.local)) ≡ true → Does k name a
  yes {test} {a} {b} k name has e = record { row_is = has.row_is ∙ tested g text test a b k true e }

  pub no : {test : Given → Sight → Configuration Unit Unit → Bool} {a b : Rows Unit Unit} (k : Configuration Unit Unit) (name : Name) → Does k name (when test a b)
      → test g (sight g text k) (with_local k (counts k.local)) ≡ false → Does k name b
  no {test} {a} {b} k name has e = record { row_is = has.row_is ∙ tested g text test a b k false e }

  -- a byte waits
  pub here-at : (others : Rows Unit Unit) (name : Name) (stack : List EventName) (q : ℕ) (ended : Bool) (es : List Event) (local : Local Unit Unit) (s : Seat) (ss : List Seat) → drop q text.seats ≡ s ∷ ss
      → HasRows g text m.step name (at_bytes_only others) → Does (held stack q Byte ended es local) name others
  here-at others name stack q ended es local s ss at has =
      let k = held stack q Byte ended es local in
      record { row_is = has k ∙ ap (λ o. row_step g text k (at_bytes_only others (before_class g text q) (class_of text_byte o))) (ap byte_of (at-front text.seats q s ss at)) }

  pub here : (others : Rows Unit Unit) (name : Name) (stack : List EventName) (q : ℕ) (es : List Event) (local : Local Unit Unit) (s : Seat) (ss : List Seat) → drop q text.seats ≡ s ∷ ss
      → HasRows g text m.step name (at_bytes_only others) → Does (held stack q Byte false es local) name others
  here others name stack q es local s ss at has = here-at others name stack q false es local s ss at has

  -- and it passes a test, or not
  pub seen : (f : ℕ → Bool) (t : Bool) (q : ℕ) (s : Seat) (ss : List Seat) → drop q text.seats ≡ s ∷ ss → f s.byte ≡ t → passes f (byte_of (slice_get text.seats q)) ≡ t
  seen f t q s ss at h = ap (λ o. passes f (byte_of o)) (at-front text.seats q s ss at) ∙ h

-- What is found from a state at a place, where these choices wait: nothing, and then it fails, and the events before it are left, and four calls are left
-- for each byte from the place on that no look passes; or what begins at a place, and then it ends behind that, with its events, and four calls are left
-- for each byte behind it, and one more
module _ (g : Given) (text : Text) (m : Plays g text) (cs : List Choice) (p far : ℕ) (events : List Event) (seats : List Seat) where
  abbrev pub Finds : (n : ℕ) → Configuration Unit Unit → Name → Option Found → Type 0
  Finds n k name None = (k' : Configuration Unit Unit) × Leaves (4 * (length text.seats - far)) n k.local k'.local × (take (length events) k'.events ≡ events) × Leads g text m k cs (Retry name) k' cs Nok
  Finds n k name (Some item) =
      (after : Local Unit Unit) × Leaves (4 * length (drop (item_length item) seats) + 1) n k.local after
      × Leads g text m k cs (Retry name) (between_items (p + item_length item) Nothing false (events ++ item_events g.bytes (item, take (item_length item) seats)) after) cs Ok

  -- what is found further on is found here, with the calls up to there
  pub further : (c n n' : ℕ) (k k' : Configuration Unit Unit) (name next : Name) (o : Option Found) → c + n ≤ n' → Touches c k.local k'.local
      → Leads g text m k cs (Retry name) k' cs (Retry next) → Finds n k' next o → Finds n' k name o
  further c n n' k k' name next None fits some leads d = (d.0, leaves-more (4 * (length text.seats - far)) c n n' k.local k'.local d.0.local fits some d.1, d.2, λ e h. leads e (d.3 e h))
  further c n n' k k' name next (Some item) fits some leads d = (d.0, leaves-more (4 * length (drop (item_length item) seats) + 1) c n n' k.local k'.local d.0 fits some d.1, λ e h. leads e (d.2 e h))

  -- behind these events
  abbrev pub stands : List EventName → ℕ → List Event → Local Unit Unit → Configuration Unit Unit
  stands stack q x local = held stack q Byte false (events ++ x) local

  abbrev pub left : List Seat → List EventName → ℕ → List Event → Local Unit Unit → Configuration Unit Unit
  left l stack q x local = shows l stack q (events ++ x) local

  -- the same place, and the same events
  pub moved : (n : ℕ) (l : List Seat) (stack : List EventName) (q q' : ℕ) (x x' : List Event) (local : Local Unit Unit) (name : Name) (o : Option Found) → q ≡ q' → x ≡ x'
      → Finds n (left l stack q x local) name o → Finds n (left l stack q' x' local) name o
  moved n l stack q q' x x' local name o place same d =
      subst (λ q. Finds n (left l stack q x' local) name o) place (subst (λ x. Finds n (left l stack q x local) name o) same d)

  -- a state whose row fails, no further than that place
  pub fails : (n : ℕ) (l : List Seat) (stack : List EventName) (q : ℕ) (x : List Event) (local : Local Unit Unit) (name : Name) → drop q text.seats ≡ l → 4 * length l + 1 ≤ n → q ≤ far
      → HasRow g text m.step (left l stack q x local) name (row [] Nok) → Finds n (left l stack q x local) name None
  fails n l stack q x local name at fits within has = (
    left l stack q x (counts local),
    record { calls = (let once = touched-call local in omega (arith, once.calls, fits, within, length-drop q text.seats, ap length at)); same = refl },
    take_at events x (length events) refl,
    λ e h. leads-row g text m (row [] Nok) (left l stack q x local) cs name e has h,
  )

  pub fails-here : (n : ℕ) (stack : List EventName) (q : ℕ) (x : List Event) (local : Local Unit Unit) (name : Name) (s : Seat) (ss : List Seat) → drop q text.seats ≡ s ∷ ss → 4 * length (s ∷ ss) + 1 ≤ n → q ≤ far
      → Does g text m (stands stack q x local) name (row [] Nok) → Finds n (stands stack q x local) name None
  fails-here n stack q x local name s ss at fits within has = fails n (s ∷ ss) stack q x local name at fits within has.row_is

  -- a byte is read, and a state follows
  pub reads : (n n' : ℕ) (stack stack' : List EventName) (q : ℕ) (x y : List Event) (local after : Local Unit Unit) (name next : Name) (s : Seat) (ss : List Seat) (rows : Rows Unit Unit) (o : Option Found) (es : List Event)
      → drop q text.seats ≡ s ∷ ss → n + 1 ≤ n' → Touches 1 local after → Does g text m (stands stack q x local) name rows → es ≡ events ++ y
      → ((e : Ending) → EndsWith g text m (held stack' (q + 1) Nothing false es after) cs (Next next) e → WithRows g text m (stands stack q x local) cs e rows)
      → Finds n (left ss stack' (q + 1) y after) next o → Finds n' (stands stack q x local) name o
  reads n n' stack stack' q x y local after name next s ss rows o es at fits one has made goes d =
      further 1 n n' (stands stack q x local) (left ss stack' (q + 1) y after) name next o (omega (arith, fits)) one
      (λ e h.
      leads-row g text m rows (stands stack q x local) cs name e has.row_is
      (goes e
      (subst (λ l. EndsWith g text m (held stack' (q + 1) Nothing false l after) cs (Next next) e) (sym made)
      (goes-next g text m ss stack' (q + 1) (events ++ y) after cs next (drop-next text.seats q s ss at) e h))))
      d

  -- a state follows at the byte that waits
  pub stays : (n n' : ℕ) (stack stack' : List EventName) (q : ℕ) (x y : List Event) (local after : Local Unit Unit) (name next : Name) (rows : Rows Unit Unit) (o : Option Found) (es : List Event)
      → n + 1 ≤ n' → Touches 1 local after → Does g text m (stands stack q x local) name rows → es ≡ events ++ y
      → ((e : Ending) → EndsWith g text m (held stack' q Byte false es after) cs (Retry next) e → WithRows g text m (stands stack q x local) cs e rows)
      → Finds n (stands stack' q y after) next o → Finds n' (stands stack q x local) name o
  stays n n' stack stack' q x y local after name next rows o es fits one has made goes d =
      further 1 n n' (stands stack q x local) (stands stack' q y after) name next o (omega (arith, fits)) one
      (λ e h.
      leads-row g text m rows (stands stack q x local) cs name e has.row_is
      (goes e (subst (λ l. EndsWith g text m (held stack' q Byte false l after) cs (Retry next) e) (sym made) h)))
      d
