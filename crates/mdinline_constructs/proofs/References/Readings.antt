-- How a machine reads a character reference: if one is there, it is read whole, with its events; if not, the attempt leaves nothing.
use Rattle.mdinline_constructs.proofs.Prelude.{◌≡◌, ℕ, ◌+◌, ◌-◌, ◌<◌, ◌≤◌, ◌++◌, ◌==◌, ◌&&◌, List, [], ◌∷◌, Bool, true, false, cond, Option, Some, None, length, take, drop, slice_get, refl, sym, ap, subst, ◌∙◌, arith, option_map, eqb-true, and-false, take-append_seam, append_assoc, drop-next, Seat, Event, EventName, CharacterReference, CharacterReferenceMarkerNumeric, CharacterReferenceMarkerHexadecimal, CharacterReferenceMarkerSemi, CharacterReferenceValue, Name, Next, Retry, Ok, Nok, CharacterReferenceStart, CharacterReferenceOpen, CharacterReferenceNumeric, ReferenceValue, with_local, Choice, Configuration, Local, Step, Sight, byte_of, sight, Given, Text, Nothing, Byte, counts, row_step, at-front, held, Rows, row, when, write, writes, consume, enter, exit, passes, Between, Found, item_length, bytes_of, item_events, more_than, more-is, outer, DecidesIn, ReadsIn, TriedIn, decides-in, decides-more, puts-back, reads-of, refused, goes-next, shows, IsAfter, after-call, after-within, ReadsPart, Ending, EndsWith, HasRows, Plays, between_items, leads-ok, leads-seen, tested, Kind, named, decimal, hexadecimal, is_number_sign, is_x, is_semicolon, is_value, reference, reference_at, body_at, number_at, value_at, may_go_on, is_whole, name_behind, at_number_sign, at_semicolon, at_x, value_goes_on, value_is_whole, value_grows, marker_is, value_begins, reference_start_rows, reference_open_rows, reference_numeric_rows, reference_value_rows, references}
use Rattle.mdinline_constructs.proofs.References.Calls.{reference_calls}
use Rattle.mdinline_constructs.proofs.References.Events.{begun_named, begun_decimal, begun_hexadecimal, decimal-events, decimal-front, ended_value, entered_value, hexadecimal-events, hexadecimal-front, named-events, named-front}
use Rattle.mdinline_constructs.proofs.References.Values.{first-walk, has-room, marker_of, walk, walk-value}

-- A machine that plays the rows of character references
pub record PlaysReferences (g : Given) (text : Text) (m : Plays g text) : Type 0 where
  pub reference_start : HasRows g text m.step CharacterReferenceStart reference_start_rows
  pub reference_open : HasRows g text m.step CharacterReferenceOpen reference_open_rows
  pub reference_numeric : HasRows g text m.step CharacterReferenceNumeric reference_numeric_rows
  pub reference_value : HasRows g text m.step ReferenceValue reference_value_rows

-- the spans that are open before a value, and in it
abbrev reference_spans : List EventName
reference_spans = CharacterReference ∷ []

abbrev value_spans : List EventName
value_spans = CharacterReference ∷ CharacterReferenceValue ∷ []

-- what states share once a byte was read
abbrev grown : Option ℕ → Local Unit Unit → Local Unit Unit
grown o local =
    let t = local.tokenize_state in record local { tokenize_state = record t { size_b = more_than t.size_b; markers = name_behind t.marker t.markers t.size_b o } }

-- which is one call more
grown-after : (o : Option ℕ) (local : Local Unit Unit) → IsAfter 1 local (grown o (counts local))
grown-after o local = record { calls = (after-call local).calls; same = refl }

-- a reference of this kind is read, and these bytes of its value were, which begin a name that is known
record HasRead (kind : Kind) (n : ℕ) (local : Local Unit Unit) : Type 0 where
  marker : local.tokenize_state.marker ≡ marker_of kind
  size : local.tokenize_state.size_b ≡ n

module _ (g : Given) (text : Text) (m : Plays g text) (refs : PlaysReferences g text m) (names : Between) (nok : Name) (p : ℕ) (ended : Bool) (events : List Event) (seats : List Seat) where
  -- what waits while a reference is tried
  abbrev waits : List Choice
  waits = outer names.home nok p ended events ∷ []

  -- the reading is decided from a place in it, within so many calls
  abbrev IsDecided : (calls : ℕ) → List EventName → (q : ℕ) → List Event → List Seat → Local Unit Unit → Name → Option Found → Type 0
  IsDecided calls stack q begun l local name o = DecidesIn g text m names calls nok p ended events seats (shows l stack q begun local) waits (Retry name) o

  -- reading on from the step of these rows
  abbrev Goes : Configuration Unit Unit → Ending → Rows Unit Unit → Type 0
  Goes k es rows = let q = row_step g text k rows in EndsWith g text m q.configuration (q.choices ++ waits) q.answer es

  -- of two rows one is picked by a test
  picks : (test : Given → Sight → Configuration Unit Unit → Bool) (a b : Rows Unit Unit) (k : Configuration Unit Unit) (t : Bool) (es : Ending) → test g (sight g text k) (with_local k (counts k.local)) ≡ t → Goes k es (cond t a b)
      → Goes k es (when test a b)
  picks test a b k t es e h = subst (λ (q : Step Unit Unit). EndsWith g text m q.configuration (q.choices ++ waits) q.answer es) (sym (tested g text test a b k t e)) h

  -- what was tried is put back
  rejects : (k : Configuration Unit Unit) (es : Ending) → take (length events) k.events ≡ events → EndsWith g text m (between_items p Nothing ended events (counts k.local)) [] (Next nok) es → Goes k es (row [] Nok)
  rejects k es kept h = puts-back g text m names nok p ended events (with_local k (counts k.local)) kept es h

  module _ (kind : Kind) (q0 : ℕ) (front : List Event) (kept : take (length events) front ≡ events) (entered-kept : take (length events) (entered_value g text front q0) ≡ events)
      (place : (n : ℕ) → q0 + n + 1 ≡ p + item_length (reference kind n))
      (ends : (n : ℕ) (x : Seat) (xs : List Seat) → 0 < n → drop (q0 + n) text.seats ≡ x ∷ xs
      → ended_value g text (entered_value g text front q0) (q0 + n) ≡ events ++ item_events g.bytes (reference kind n, take (item_length (reference kind n)) seats)) where
    abbrev entered : List Event
    entered = entered_value g text front q0

    abbrev found : List ℕ → ℕ → List ℕ → Option Found
    found name n bs = option_map (reference kind) (walk (marker_of kind) name n bs)

    -- so many bytes were read, and one more waits
    module _ (n : ℕ) (local : Local Unit Unit) (known : HasRead kind n local) (o : Option ℕ) (b : ℕ) (byte : o ≡ Some b) where
      may-is : let t = local.tokenize_state in passes (may_go_on t.marker t.markers t.size_b) o ≡ may_go_on (marker_of kind) local.tokenize_state.markers n b
      may-is = λ i. passes (may_go_on (known.marker i) local.tokenize_state.markers (known.size i)) (byte i)

      grown-name : (grown o (counts local)).tokenize_state.markers ≡ name_behind (marker_of kind) local.tokenize_state.markers n (Some b)
      grown-name = λ i. name_behind (known.marker i) local.tokenize_state.markers (known.size i) (byte i)

      grown-known : n < 31 → HasRead kind (n + 1) (grown o (counts local))
      grown-known less = record { marker = known.marker; size = ap more_than known.size ∙ more-is n (omega (arith, less)) }

    -- how many calls are left in a value behind so many of its bytes
    abbrev left : ℕ → ℕ
    left n = 1 + (31 - n)

    -- In a value, behind so many of its bytes
    reads-value : (l : List Seat) (n : ℕ) (local : Local Unit Unit) → drop (q0 + n) text.seats ≡ l → 0 < n → HasRead kind n local
        → IsDecided (left n) value_spans (q0 + n) entered l local ReferenceValue (found local.tokenize_state.markers n (bytes_of l))
    reads-value [] n local at some known = (
      counts local,
      after-within 1 (left n) local (counts local) (omega arith) (after-call local),
      refused g text m names reference_value_rows ReferenceValue refs.reference_value nok p ended events [] value_spans (q0 + n) entered local at refl entered-kept,
    )
    reads-value (c ∷ cs) n local at some known =
        let once = after-within 1 (left n) local (counts local) (omega arith) (after-call local) in
        let q = q0 + n in
        let name = local.tokenize_state.markers in
        let here = at-front text.seats q c cs at in
        let byte = ap byte_of here in
        let k = held value_spans q Byte false entered local in
        let o = byte_of (slice_get text.seats q) in
        let next = drop-next text.seats q c cs at in
        let further : q0 + (n + 1) ≡ q + 1 = omega arith in
        let closes = row (exit CharacterReferenceValue ∷ enter CharacterReferenceMarkerSemi ∷ consume ∷ exit CharacterReferenceMarkerSemi ∷ exit CharacterReference ∷ []) Ok in
        let goes_on = when value_goes_on (row (writes value_grows ∷ consume ∷ []) (Next ReferenceValue)) (row [] Nok) in
        let one = when value_is_whole closes (row [] Nok) in
        let seen = λ (es : Ending). leads-seen g text m reference_value_rows k waits ReferenceValue es byte refl (refs.reference_value k) in
        let Here = λ (r : Option Found). IsDecided (left n) value_spans q entered (c ∷ cs) local ReferenceValue r in
        let rest = found (name_behind (marker_of kind) name n (Some c.byte)) (n + 1) (bytes_of cs) in
        elim (is_semicolon c.byte) as (λ t. is_semicolon c.byte ≡ t
        → Here (option_map (reference kind) (cond t (cond (is_whole (marker_of kind) name n) (Some n) None) (cond (may_go_on (marker_of kind) name n c.byte) (walk (marker_of kind) (name_behind (marker_of kind) name n (Some c.byte)) (n + 1) (bytes_of cs)) None)))) [
          | true ↦ λ semicolon.
              let whole : let t = local.tokenize_state in is_whole t.marker t.markers t.size_b ≡ is_whole (marker_of kind) name n = λ i. is_whole (known.marker i) name (known.size i) in
              let at_end = ap (passes is_semicolon) byte ∙ semicolon in
              elim (is_whole (marker_of kind) name n) as (λ t. is_whole (marker_of kind) name n ≡ t → Here (option_map (reference kind) (cond t (Some n) None))) [
                | true ↦ λ is. (
                  false,
                  counts local,
                  once,
                  λ es h.
                      seen es
                      (picks at_semicolon one goes_on k true es at_end
                      (picks value_is_whole closes (row [] Nok) k true es (whole ∙ is)
                      (leads-ok g text m (between_items (q + 1) Nothing false (ended_value g text entered q) (counts local)) (outer names.home nok p ended events) [] es
                      (rw (ends n c cs some at, place n) h)))),
                )
                | false ↦ λ is. (
                  counts local,
                  once,
                  λ es h.
                      seen es
                      (picks at_semicolon one goes_on k true es at_end
                      (picks value_is_whole closes (row [] Nok) k false es (whole ∙ is) (rejects k es entered-kept h))),
                )
              ] refl
          | false ↦ λ other.
              let at_end = ap (passes is_semicolon) byte ∙ other in
              elim (may_go_on (marker_of kind) name n c.byte) as (λ t. may_go_on (marker_of kind) name n c.byte ≡ t
              → Here (option_map (reference kind) (cond t (walk (marker_of kind) (name_behind (marker_of kind) name n (Some c.byte)) (n + 1) (bytes_of cs)) None))) [
                | true ↦ λ is.
                    let after = grown o (counts local) in
                    let less = has-room kind name n c.byte is in
                    let read = reads-value cs (n + 1) after (ap (λ j. drop j text.seats) further ∙ next) (omega arith) (grown-known n local known o c.byte byte less) in
                    let read' = subst (λ w. IsDecided (left (n + 1)) value_spans (q0 + (n + 1)) entered cs after ReferenceValue (found w (n + 1) (bytes_of cs))) (grown-name n local known o c.byte byte) read in
                    let read'' = subst (λ j. IsDecided (left (n + 1)) value_spans j entered cs after ReferenceValue rest) further read' in
                    decides-more g text m names (1 + left (n + 1)) (left n) nok p ended events seats k waits (Retry ReferenceValue) rest (omega (arith, less))
                    (decides-in g text m names 1 (left (n + 1)) nok p ended events seats k (shows cs value_spans (q + 1) entered after) waits waits (Retry ReferenceValue) (Retry ReferenceValue) rest (grown-after o local)
                    (λ es h.
                    seen es
                    (picks at_semicolon one goes_on k false es at_end
                    (picks value_goes_on (row (writes value_grows ∷ consume ∷ []) (Next ReferenceValue)) (row [] Nok) k true es (may-is n local known o c.byte byte ∙ is)
                    (goes-next g text m cs value_spans (q + 1) entered after waits ReferenceValue next es h))))
                    read'')
                | false ↦ λ is. (
                  counts local,
                  once,
                  λ es h.
                      seen es
                      (picks at_semicolon one goes_on k false es at_end
                      (picks value_goes_on (row (writes value_grows ∷ consume ∷ []) (Next ReferenceValue)) (row [] Nok) k false es (may-is n local known o c.byte byte ∙ is) (rejects k es entered-kept h))),
                )
              ] refl
        ] refl

    -- Before a value, in a state that begins it
    begins-value : (state : Name) (v : Seat) (vs : List Seat) (local : Local Unit Unit) → drop q0 text.seats ≡ v ∷ vs → HasRead kind 0 local
        → let k = held reference_spans q0 Byte false front local in ((es : Ending) → Goes k es value_begins → EndsWith g text m k waits (Retry state) es)
        → IsDecided 32 reference_spans q0 front (v ∷ vs) local state (value_at kind (bytes_of (v ∷ vs)))
    begins-value state v vs local at known into =
        let name = local.tokenize_state.markers in
        let here = at-front text.seats q0 v vs at in
        let byte = ap byte_of here in
        let k = held reference_spans q0 Byte false front local in
        let o = byte_of (slice_get text.seats q0) in
        let next = drop-next text.seats q0 v vs at in
        let Here = λ (r : Option Found). IsDecided 32 reference_spans q0 front (v ∷ vs) local state r in
        let rest = found (name_behind (marker_of kind) name 0 (Some v.byte)) 1 (bytes_of vs) in
        let begins = row (enter CharacterReferenceValue ∷ writes value_grows ∷ consume ∷ []) (Next ReferenceValue) in
        subst Here (ap (option_map (reference kind)) (sym (first-walk kind name v.byte (bytes_of vs))) ∙ walk-value kind name (bytes_of (v ∷ vs)))
        (elim (may_go_on (marker_of kind) name 0 v.byte) as (λ t. may_go_on (marker_of kind) name 0 v.byte ≡ t
        → Here (option_map (reference kind) (cond t (walk (marker_of kind) (name_behind (marker_of kind) name 0 (Some v.byte)) 1 (bytes_of vs)) None))) [
          | true ↦ λ is.
              let after = grown o (counts local) in
              let read = reads-value vs 1 after next (omega arith) (grown-known 0 local known o v.byte byte (omega arith)) in
              let read' = subst (λ w. IsDecided (left 1) value_spans (q0 + 1) entered vs after ReferenceValue (found w 1 (bytes_of vs))) (grown-name 0 local known o v.byte byte) read in
              decides-in g text m names 1 31 nok p ended events seats k (shows vs value_spans (q0 + 1) entered after) waits waits (Retry state) (Retry ReferenceValue) rest (grown-after o local)
              (λ es h.
              into es
              (picks value_goes_on begins (row [] Nok) k true es (may-is 0 local known o v.byte byte ∙ is)
              (goes-next g text m vs value_spans (q0 + 1) entered after waits ReferenceValue next es h)))
              read'
          | false ↦ λ is. (
            counts local,
            after-within 1 32 local (counts local) (omega arith) (after-call local),
            λ es h. into es (picks value_goes_on begins (row [] Nok) k false es (may-is 0 local known o v.byte byte ∙ is) (rejects k es kept h)),
          )
        ] refl)

module _ (g : Given) (text : Text) (m : Plays g text) (refs : PlaysReferences g text m) (names : Between) (nok : Name) (p : ℕ) (ended : Bool) (events : List Event) (s : Seat) where
  -- what waits while a reference is tried
  abbrev tried : List Choice
  tried = outer names.home nok p ended events ∷ []

  -- the reading is decided from a place in it, within so many calls
  abbrev DecidedAt : (calls : ℕ) → List Seat → (q : ℕ) → List Event → List Seat → Local Unit Unit → Name → Option Found → Type 0
  DecidedAt calls seats q begun l local name o = DecidesIn g text m names calls nok p ended events seats (shows l reference_spans q begun local) tried (Retry name) o

  -- what is written at `&`, `#` and `x`
  abbrev marked : ℕ → Local Unit Unit → Local Unit Unit
  marked byte local = record local { tokenize_state = record local.tokenize_state { marker = byte } }

  abbrev begun : Local Unit Unit → Local Unit Unit
  begun local = record local { tokenize_state = record local.tokenize_state { marker = 38; size_b = 0 } }

  -- they are one call more
  marked-after : (byte : ℕ) (local : Local Unit Unit) → IsAfter 1 local (marked byte (counts local))
  marked-after byte local = record { calls = (after-call local).calls; same = refl }

  begun-after : (local : Local Unit Unit) → IsAfter 1 local (begun (counts local))
  begun-after local = record { calls = (after-call local).calls; same = refl }

  no-value : (kind : Kind) (o : Option Found) → cond (is_value kind [] && false) o None ≡ None
  no-value kind o = ap (λ t. cond t o None) (and-false (is_value kind []))

  -- more calls may be counted
  within : (n n' : ℕ) → n ≤ n' → (seats : List Seat) (q : ℕ) (begun : List Event) (l : List Seat) (local : Local Unit Unit) (name : Name) (o : Option Found)
      → DecidedAt n seats q begun l local name o → DecidedAt n' seats q begun l local name o
  within n n' h seats q begun l local name o d = decides-more g text m names n n' nok p ended events seats (shows l reference_spans q begun local) tried (Retry name) o h d

  -- behind `&#`, or `&#x`: no value
  refuses-number : (seats : List Seat) (q : ℕ) (front : List Event) (local : Local Unit Unit) → take (length events) front ≡ events → drop q text.seats ≡ []
      → DecidedAt 32 seats q front [] local CharacterReferenceNumeric None
  refuses-number seats q front local kept at = (
    counts local,
    after-within 1 32 local (counts local) (omega arith) (after-call local),
    refused g text m names reference_numeric_rows CharacterReferenceNumeric refs.reference_numeric nok p ended events [] reference_spans q front local at refl kept,
  )

  -- behind `&#x`
  decides-hexadecimal : (h y : Seat) (l : List Seat) (local : Local Unit Unit) → drop p text.seats ≡ s ∷ h ∷ y ∷ l → local.tokenize_state.marker ≡ 120 → local.tokenize_state.size_b ≡ 0
      → DecidedAt 32 (s ∷ h ∷ y ∷ l) (p + 1 + 1 + 1) (begun_hexadecimal g text events p) l local CharacterReferenceNumeric (value_at hexadecimal (bytes_of l))
  decides-hexadecimal h y [] local here marker size =
      let at = drop-next text.seats (p + 1 + 1) y [] (drop-next text.seats (p + 1) h (y ∷ []) (drop-next text.seats p s (h ∷ y ∷ []) here)) in
      subst (DecidedAt 32 (s ∷ h ∷ y ∷ []) (p + 1 + 1 + 1) (begun_hexadecimal g text events p) [] local CharacterReferenceNumeric) (sym (no-value hexadecimal (Some (reference hexadecimal 0))))
      (refuses-number (s ∷ h ∷ y ∷ []) (p + 1 + 1 + 1) (begun_hexadecimal g text events p) local (hexadecimal-front g text events p) at)
  decides-hexadecimal h y (v ∷ vs) local here marker size =
      let q = p + 1 + 1 + 1 in
      let front = begun_hexadecimal g text events p in
      let at = drop-next text.seats (p + 1 + 1) y (v ∷ vs) (drop-next text.seats (p + 1) h (y ∷ v ∷ vs) (drop-next text.seats p s (h ∷ y ∷ v ∷ vs) here)) in
      let k = held reference_spans q Byte false front local in
      begins-value g text m refs names nok p ended events (s ∷ h ∷ y ∷ v ∷ vs) hexadecimal q front (hexadecimal-front g text events p) (simp (append_assoc, take-append_seam)) (λ n. omega arith)
      (λ n x xs some there. hexadecimal-events g text events p n s h y v x vs xs here some there)
      CharacterReferenceNumeric v vs local at (record { marker = marker; size = size })
      (λ es into.
      leads-seen g text m reference_numeric_rows k tried CharacterReferenceNumeric es (ap byte_of (at-front text.seats q v vs at)) refl (refs.reference_numeric k)
      (picks g text m refs names nok p ended events [] at_x (row (enter CharacterReferenceMarkerHexadecimal ∷ consume ∷ exit CharacterReferenceMarkerHexadecimal ∷ write (marker_is 120) ∷ []) (Next CharacterReferenceNumeric)) value_begins k false es
      (ap (λ b. (b == 35) && passes is_x (byte_of (slice_get text.seats q))) marker) into))

  -- behind `&#`
  decides-number : (h : Seat) (l : List Seat) (local : Local Unit Unit) → drop p text.seats ≡ s ∷ h ∷ l → local.tokenize_state.marker ≡ 35 → local.tokenize_state.size_b ≡ 0
      → DecidedAt 33 (s ∷ h ∷ l) (p + 1 + 1) (begun_decimal g text events p) l local CharacterReferenceNumeric (number_at (bytes_of l))
  decides-number h [] local here marker size =
      let at = drop-next text.seats (p + 1) h [] (drop-next text.seats p s (h ∷ []) here) in
      subst (DecidedAt 33 (s ∷ h ∷ []) (p + 1 + 1) (begun_decimal g text events p) [] local CharacterReferenceNumeric) (sym (no-value decimal (Some (reference decimal 0))))
      (within 32 33 (omega arith) (s ∷ h ∷ []) (p + 1 + 1) (begun_decimal g text events p) [] local CharacterReferenceNumeric None (refuses-number (s ∷ h ∷ []) (p + 1 + 1) (begun_decimal g text events p) local (decimal-front g text events p) at))
  decides-number h (y ∷ ys) local here marker size =
      let q = p + 1 + 1 in
      let front = begun_decimal g text events p in
      let seats = s ∷ h ∷ y ∷ ys in
      let at = drop-next text.seats (p + 1) h (y ∷ ys) (drop-next text.seats p s (h ∷ y ∷ ys) here) in
      let byte = ap byte_of (at-front text.seats q y ys at) in
      let k = held reference_spans q Byte false front local in
      let further = row (enter CharacterReferenceMarkerHexadecimal ∷ consume ∷ exit CharacterReferenceMarkerHexadecimal ∷ write (marker_is 120) ∷ []) (Next CharacterReferenceNumeric) in
      let seen = λ (es : Ending). leads-seen g text m reference_numeric_rows k tried CharacterReferenceNumeric es byte refl (refs.reference_numeric k) in
      let Here = λ (o : Option Found). DecidedAt 33 seats q front (y ∷ ys) local CharacterReferenceNumeric o in
      let at_x_is : ((local.tokenize_state.marker == 35) && passes is_x (byte_of (slice_get text.seats q))) ≡ is_x y.byte = λ i. (marker i == 35) && passes is_x (byte i) in
      elim (is_x y.byte) as (λ t. is_x y.byte ≡ t → Here (cond t (value_at hexadecimal (bytes_of ys)) (value_at decimal (bytes_of (y ∷ ys))))) [
        | true ↦ λ x.
            let after = marked 120 (counts local) in
            decides-in g text m names 1 32 nok p ended events seats k (shows ys reference_spans (q + 1) (begun_hexadecimal g text events p) after) tried tried (Retry CharacterReferenceNumeric) (Retry CharacterReferenceNumeric)
            (value_at hexadecimal (bytes_of ys)) (marked-after 120 local)
            (λ es h.
            seen es
            (picks g text m refs names nok p ended events [] at_x further value_begins k true es (at_x_is ∙ x)
            (goes-next g text m ys reference_spans (q + 1) (begun_hexadecimal g text events p) after tried CharacterReferenceNumeric (drop-next text.seats q y ys at) es h)))
            (decides-hexadecimal h y ys after here refl size)
        | false ↦ λ other.
            within 32 33 (omega arith) seats q front (y ∷ ys) local CharacterReferenceNumeric (value_at decimal (bytes_of (y ∷ ys)))
            (begins-value g text m refs names nok p ended events seats decimal q front (decimal-front g text events p) (simp (append_assoc, take-append_seam)) (λ n. omega arith)
            (λ n x xs some there. decimal-events g text events p n s h y x ys xs here some there)
            CharacterReferenceNumeric y ys local at (record { marker = marker; size = size })
            (λ es into. seen es (picks g text m refs names nok p ended events [] at_x further value_begins k false es (at_x_is ∙ other) into)))
      ] refl

  -- behind `&`
  decides-body : (l : List Seat) (local : Local Unit Unit) → drop p text.seats ≡ s ∷ l → local.tokenize_state.marker ≡ 38 → local.tokenize_state.size_b ≡ 0
      → DecidedAt 34 (s ∷ l) (p + 1) (begun_named g text events p) l local CharacterReferenceOpen (body_at (bytes_of l))
  decides-body [] local here marker size =
      let at = drop-next text.seats p s [] here in
      subst (DecidedAt 34 (s ∷ []) (p + 1) (begun_named g text events p) [] local CharacterReferenceOpen) (sym (no-value named (Some (reference named 0)))) (
        counts local,
        after-within 1 34 local (counts local) (omega arith) (after-call local),
        refused g text m names reference_open_rows CharacterReferenceOpen refs.reference_open nok p ended events [] reference_spans (p + 1) (begun_named g text events p) local at refl (named-front g text events p),
      )
  decides-body (h ∷ hs) local here marker size =
      let q = p + 1 in
      let front = begun_named g text events p in
      let seats = s ∷ h ∷ hs in
      let at = drop-next text.seats p s (h ∷ hs) here in
      let byte = ap byte_of (at-front text.seats q h hs at) in
      let k = held reference_spans q Byte false front local in
      let further = row (enter CharacterReferenceMarkerNumeric ∷ consume ∷ exit CharacterReferenceMarkerNumeric ∷ write (marker_is 35) ∷ []) (Next CharacterReferenceNumeric) in
      let seen = λ (es : Ending). leads-seen g text m reference_open_rows k tried CharacterReferenceOpen es byte refl (refs.reference_open k) in
      let Here = λ (o : Option Found). DecidedAt 34 seats q front (h ∷ hs) local CharacterReferenceOpen o in
      elim (is_number_sign h.byte) as (λ t. is_number_sign h.byte ≡ t → Here (cond t (number_at (bytes_of hs)) (value_at named (bytes_of (h ∷ hs))))) [
        | true ↦ λ sign.
            let after = marked 35 (counts local) in
            decides-in g text m names 1 33 nok p ended events seats k (shows hs reference_spans (q + 1) (begun_decimal g text events p) after) tried tried (Retry CharacterReferenceOpen) (Retry CharacterReferenceNumeric)
            (number_at (bytes_of hs)) (marked-after 35 local)
            (λ es done.
            seen es
            (picks g text m refs names nok p ended events [] at_number_sign further value_begins k true es (ap (passes is_number_sign) byte ∙ sign)
            (goes-next g text m hs reference_spans (q + 1) (begun_decimal g text events p) after tried CharacterReferenceNumeric (drop-next text.seats q h hs at) es done)))
            (decides-number h hs after here refl size)
        | false ↦ λ other.
            within 32 34 (omega arith) seats q front (h ∷ hs) local CharacterReferenceOpen (value_at named (bytes_of (h ∷ hs)))
            (begins-value g text m refs names nok p ended events seats named q front (named-front g text events p) (simp (append_assoc, take-append_seam)) (λ n. omega arith)
            (λ n x xs some there. named-events g text events p n s h x hs xs here some there)
            CharacterReferenceOpen h hs local at (record { marker = marker; size = size })
            (λ es into. seen es (picks g text m refs names nok p ended events [] at_number_sign further value_begins k false es (ap (passes is_number_sign) byte ∙ other) into)))
      ] refl

  -- So references are tried at `&`
  tries-reference : (local : Local Unit Unit) (ss : List Seat) → drop p text.seats ≡ s ∷ ss → s.byte ≡ 38 → TriedIn g text m names 35 CharacterReferenceStart nok p ended events local (s ∷ ss) (reference_at (bytes_of (s ∷ ss)))
  tries-reference local ss here is =
      let after = begun (counts local) in
      subst (λ b. TriedIn g text m names 35 CharacterReferenceStart nok p ended events local (s ∷ ss) (cond b (body_at (bytes_of ss)) None)) (sym (ap (λ b. b == 38) is))
      (decides-in g text m names 1 34 nok p ended events (s ∷ ss) (between_items p Byte ended events local) (shows ss reference_spans (p + 1) (begun_named g text events p) after) tried tried (Retry CharacterReferenceStart)
      (Retry CharacterReferenceOpen) (body_at (bytes_of ss)) (begun-after local)
      (λ es h.
      leads-seen g text m reference_start_rows (between_items p Byte ended events local) tried CharacterReferenceStart es (ap byte_of (at-front text.seats p s ss here)) refl (refs.reference_start _)
      (goes-next g text m ss reference_spans (p + 1) (begun_named g text events p) after tried CharacterReferenceOpen (drop-next text.seats p s ss here) es h))
      (decides-body ss after here refl refl))

-- The theorem of character references, within so many calls
pub references-read-in : (g : Given) (text : Text) (m : Plays g text) → PlaysReferences g text m → (names : Between) → ReadsIn g text m names reference_calls references
references-read-in g text m refs names nok p ended events local s ss here first = tries-reference g text m refs names nok p ended events s local ss here (eqb-true s.byte 38 first)

-- and within any number
pub references-read : (g : Given) (text : Text) (m : Plays g text) → PlaysReferences g text m → (names : Between) → ReadsPart g text m names references
references-read g text m refs names = reads-of g text m names reference_calls references (references-read-in g text m refs names)
