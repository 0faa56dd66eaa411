-- How a machine reads full references, in small steps: what is found is found from further on, within so many calls.
use Rattle.mdinline_full_references.proofs.Prelude.{◌≡◌, ℕ, ◌+◌, ◌-◌, ◌*◌, ◌≤◌, List, [], ◌∷◌, ◌++◌, Bool, true, false, Option, Some, None, refl, sym, ap, ◌∙◌, subst, arith, take, drop, length, length-drop, take_at, drop-next, map-append, Event, EventName, Name, Next, Retry, Ok, Nok, LabelEndReferenceFull, LabelStart, LabelInside, LabelEscape, LabelEolAfter, LabelEndReferenceFullEnd, LabelLineWhite, Seat, Given, Text, Byte, Nothing, Choice, Configuration, Local, Sight, byte_of, slice_get, counts, at-front, held, shows, goes-next, Ending, EndsWith, HasRow, HasRows, Leads, Plays, between_items, leads-row, Found, item_length, bytes_of, Rows, row, take-more}
use Rattle.mdinline_labels.specs.Labels.{characters, is_filled}
use Rattle.mdinline_text_machine.specs.TextEvents.{item_events}
use Rattle.mdinline_text_machine.proofs.Texts.Steps.{WithRows}
use Rattle.mdinline_link_tails.proofs.Resources.Steps.{Does}
use Rattle.mdinline_link_tails.proofs.Resources.Touched.{Touches, touched, touched-call, Leaves, leaves-more}
use Rattle.mdinline_link_tails.specs.ResourceRows.{at_bytes_only}
use Rattle.mdinline_full_references.specs.FullReferenceRows.{filled_by, label_end_rows, label_escape_rows, label_inside_rows, label_line_rows, label_start_rows, label_white_rows, read_of_label, reference_start_rows, with_byte}
use Rattle.mdinline_full_references.proofs.FullReferences.Counts.{capped, counts-byte, fills, flag}

-- A machine that reads full references: at the names of their states it does what their rows say
pub record PlaysReferences (g : Given) (text : Text) (m : Plays g text) (wanted : Given → Sight → Configuration Unit Unit → Bool) : Type 0 where
  pub start : HasRows g text m.step LabelEndReferenceFull reference_start_rows
  pub begins : HasRows g text m.step LabelStart (at_bytes_only label_start_rows)
  pub inside : HasRows g text m.step LabelInside (at_bytes_only label_inside_rows)
  pub escape : HasRows g text m.step LabelEscape (at_bytes_only label_escape_rows)
  pub line : HasRows g text m.step LabelEolAfter (at_bytes_only label_line_rows)
  pub white : HasRows g text m.step LabelLineWhite (at_bytes_only label_white_rows)
  pub ending : HasRows g text m.step LabelEndReferenceFullEnd (at_bytes_only (label_end_rows wanted))

-- whether it is noted that a label is there
abbrev pub noted : Local Unit Unit → ℕ
noted local = local.tokenize_state.marker_b

-- These bytes of a label were read, and none is noted yet
pub record IsCounted (local : Local Unit Unit) (label : List ℕ) : Type 0 where
  pub none : noted local ≡ 0
  pub count : local.tokenize_state.size_b ≡ capped (characters label)
  pub full : local.tokenize_state.marker ≡ flag (is_filled label)

pub counted-call : (local : Local Unit Unit) (label : List ℕ) → IsCounted local label → IsCounted (counts local) label
counted-call local label h = record { none = h.none; count = h.count; full = h.full }

-- what states share once the byte that waits at a place was read
abbrev pub with_read : Text → ℕ → Local Unit Unit → Local Unit Unit
with_read text q local = read_of_label (byte_of (slice_get text.seats q)) (counts local)

pub touched-read : (text : Text) (q : ℕ) (local : Local Unit Unit) → Touches 1 local (with_read text q local)
touched-read text q local = touched local (with_read text q local) refl refl

pub counted-read : (text : Text) (q j : ℕ) (local : Local Unit Unit) (l0 : List Seat) (s : Seat) (ss : List Seat) → drop q text.seats ≡ s ∷ ss → drop j l0 ≡ s ∷ ss → IsCounted local (bytes_of (take j l0))
    → IsCounted (with_read text q local) (bytes_of (take (j + 1) l0))
counted-read text q j local l0 s ss at there h =
    let read = bytes_of (take j l0) in
    let byte : byte_of (slice_get text.seats q) ≡ Some s.byte = ap byte_of (at-front text.seats q s ss at) in
    let more : bytes_of (take (j + 1) l0) ≡ read ++ s.byte ∷ [] = ap bytes_of (take-more j l0 s ss there) ∙ map-append (λ (y : Seat). y.byte) (take j l0) (s ∷ []) in
    subst (λ bs. IsCounted (with_read text q local) bs) (sym more)
    (subst (λ o. IsCounted (read_of_label o (counts local)) (read ++ s.byte ∷ [])) (sym byte) (record {
      none = h.none;
      count = ap (with_byte s.byte) h.count ∙ counts-byte read s.byte;
      full = ap (filled_by s.byte) h.full ∙ fills read s.byte;
    }))

-- What is found from a state at a place, where these choices wait. No label, or one that is not wanted: then it fails, what is noted says which, the events
-- before it are left, and two calls are left for each byte from the place on that no look passes. Or a reference that begins at a place: then it ends behind
-- that, with its events, and two calls are left for each byte behind it, and one more
module _ (g : Given) (text : Text) (m : Plays g text) (cs : List Choice) (p far : ℕ) (events : List Event) (seats : List Seat) where
  abbrev pub Fails : (n : ℕ) → Configuration Unit Unit → Name → (there : Bool) → Type 0
  Fails n k name there =
      (k' : Configuration Unit Unit) × Leaves (2 * (length text.seats - far)) n k.local k'.local × (take (length events) k'.events ≡ events) × (noted k'.local ≡ flag there) × Leads g text m k cs (Retry name) k' cs Nok

  abbrev pub Finds : (n : ℕ) → Configuration Unit Unit → Name → Option (Option Found) → Type 0
  Finds n k name None = Fails n k name false
  Finds n k name (Some None) = Fails n k name true
  Finds n k name (Some (Some item)) =
      (after : Local Unit Unit) × Leaves (2 * length (drop (item_length item) seats) + 1) n k.local after
      × Leads g text m k cs (Retry name) (between_items (p + item_length item) Nothing false (events ++ item_events g.bytes (item, take (item_length item) seats)) after) cs Ok

  -- what is found further on is found here, with the calls up to there
  fails-further : (c n n' : ℕ) (k k' : Configuration Unit Unit) (name next : Name) (there : Bool) → c + n ≤ n' → Touches c k.local k'.local
      → Leads g text m k cs (Retry name) k' cs (Retry next) → Fails n k' next there → Fails n' k name there
  fails-further c n n' k k' name next there fits some leads d = (d.0, leaves-more (2 * (length text.seats - far)) c n n' k.local k'.local d.0.local fits some d.1, d.2, d.3, λ e h. leads e (d.4 e h))

  pub further : (c n n' : ℕ) (k k' : Configuration Unit Unit) (name next : Name) (o : Option (Option Found)) → c + n ≤ n' → Touches c k.local k'.local
      → Leads g text m k cs (Retry name) k' cs (Retry next) → Finds n k' next o → Finds n' k name o
  further c n n' k k' name next None fits some leads d = fails-further c n n' k k' name next false fits some leads d
  further c n n' k k' name next (Some None) fits some leads d = fails-further c n n' k k' name next true fits some leads d
  further c n n' k k' name next (Some (Some item)) fits some leads d = (d.0, leaves-more (2 * length (drop (item_length item) seats) + 1) c n n' k.local k'.local d.0 fits some d.1, λ e h. leads e (d.2 e h))

  -- behind these events
  abbrev pub stands : List EventName → ℕ → List Event → Local Unit Unit → Configuration Unit Unit
  stands stack q x local = held stack q Byte false (events ++ x) local

  abbrev pub left : List Seat → List EventName → ℕ → List Event → Local Unit Unit → Configuration Unit Unit
  left l stack q x local = shows l stack q (events ++ x) local

  -- a state whose row fails, no further than that place
  pub fails : (n : ℕ) (l : List Seat) (stack : List EventName) (q : ℕ) (x : List Event) (local : Local Unit Unit) (name : Name) → drop q text.seats ≡ l → 2 * length l + 1 ≤ n → q ≤ far → noted local ≡ 0
      → HasRow g text m.step (left l stack q x local) name (row [] Nok) → Finds n (left l stack q x local) name None
  fails n l stack q x local name at fits within none has = (
    left l stack q x (counts local),
    record { calls = (let once = touched-call local in omega (arith, once.calls, fits, within, length-drop q text.seats, ap length at)); same = refl },
    take_at events x (length events) refl,
    none,
    λ e h. leads-row g text m (row [] Nok) (left l stack q x local) cs name e has h,
  )

  pub fails-here : (n : ℕ) (stack : List EventName) (q : ℕ) (x : List Event) (local : Local Unit Unit) (name : Name) (s : Seat) (ss : List Seat) → drop q text.seats ≡ s ∷ ss → 2 * length (s ∷ ss) + 1 ≤ n → q ≤ far → noted local ≡ 0
      → Does g text m (stands stack q x local) name (row [] Nok) → Finds n (stands stack q x local) name None
  fails-here n stack q x local name s ss at fits within none has = fails n (s ∷ ss) stack q x local name at fits within none has.row_is

  -- a byte is read, and a state follows
  pub reads : (n n' : ℕ) (stack stack' : List EventName) (q : ℕ) (x y : List Event) (local after : Local Unit Unit) (name next : Name) (s : Seat) (ss : List Seat) (rows : Rows Unit Unit) (o : Option (Option Found)) (es : List Event)
      → drop q text.seats ≡ s ∷ ss → n + 1 ≤ n' → Touches 1 local after → Does g text m (stands stack q x local) name rows → es ≡ events ++ y
      → ((e : Ending) → EndsWith g text m (held stack' (q + 1) Nothing false es after) cs (Next next) e → WithRows g text m (stands stack q x local) cs e rows)
      → Finds n (left ss stack' (q + 1) y after) next o → Finds n' (stands stack q x local) name o
  reads n n' stack stack' q x y local after name next s ss rows o es at fits one has made goes d =
      further 1 n n' (stands stack q x local) (left ss stack' (q + 1) y after) name next o (omega (arith, fits)) one
      (λ e h.
      leads-row g text m rows (stands stack q x local) cs name e has.row_is
      (goes e
      (subst (λ l. EndsWith g text m (held stack' (q + 1) Nothing false l after) cs (Next next) e) (sym made)
      (goes-next g text m ss stack' (q + 1) (events ++ y) after cs next (drop-next text.seats q s ss at) e h))))
      d

  -- a state follows at the byte that waits
  pub stays : (n n' : ℕ) (stack stack' : List EventName) (q : ℕ) (x y : List Event) (local after : Local Unit Unit) (name next : Name) (rows : Rows Unit Unit) (o : Option (Option Found)) (es : List Event)
      → n + 1 ≤ n' → Touches 1 local after → Does g text m (stands stack q x local) name rows → es ≡ events ++ y
      → ((e : Ending) → EndsWith g text m (held stack' q Byte false es after) cs (Retry next) e → WithRows g text m (stands stack q x local) cs e rows)
      → Finds n (stands stack' q y after) next o → Finds n' (stands stack q x local) name o
  stays n n' stack stack' q x y local after name next rows o es fits one has made goes d =
      further 1 n n' (stands stack q x local) (stands stack' q y after) name next o (omega (arith, fits)) one
      (λ e h.
      leads-row g text m rows (stands stack q x local) cs name e has.row_is
      (goes e (subst (λ l. EndsWith g text m (held stack' q Byte false l after) cs (Retry next) e) (sym made) h)))
      d
