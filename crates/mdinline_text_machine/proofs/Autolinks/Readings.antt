-- Autolinks, as the machine of texts reads them: if one is there, it is read whole, with its events; if not, what was tried leaves nothing.
use Rattle.mdinline_text_machine.proofs.Prelude.{by-class, Between, IsText, autolinks, at-front, ◌≡◌, ℕ, ◌+◌, ◌<◌, ◌≤◌, ◌∷◌, [], List, Bool, true, false, cond, refl, sym, ◌∙◌, ap, subst, Option, Some, None, inl, inr, arith, take, drop, nat_le, ◌&&◌, ◌==◌, and-false, and-true, cases_lt, eqb-true, lt-ltb, drop-drop, drop-map, is_ascii_alphabetic, prefix_len, drop-next, Event, Autolink, AutolinkProtocol, Name, Next, Retry, AutolinkStart, AutolinkOpen, AutolinkSchemeInsideOrEmailAtext, AutolinkUrlInside, Seat, Nothing, Byte, Given, Text, Configuration, Local, Choice, byte_of, counts, Found, autolink, passes, has_byte_at, is_scheme_byte, is_allowed, uri, autolink_to, autolink_at, is_colon, is_greater_than, bytes_of, Rows, TextByte, text_byte, class_of, row, Nok, row_step, sight, held, has_room, has_scheme, autolink_open_rows, autolink_scheme_rows, autolink_url_rows, nat_tests, consume, enter, exit, AutolinkMarker, letter, zero, suc, length-prefix_len, list_all, is_scheme, more_than}
use Rattle.std.proofs.lemmas.Bool.{le-leb, lt-leb, le-ltb}
use Rattle.markdown_base.specs.declared.event.Name.{Name as EventName}
use Rattle.mdinline_text_machine.proofs.Texts.Steps.{Plays, between_items, leads-row, leads-seen, leads-tested, leads-ok, before_class}
use Rattle.mdinline_text_machine.proofs.Plain.Stretches.{shows, first_byte, past, passed, past-stops, past-at, passed-counts, byte-behind, goes-next, loops}
use Rattle.mdinline_text_machine.proofs.Constructs.Listed.{outer}
use Rattle.mdinline_text_machine.proofs.Plain.Items.{DecidesIn, ReadsIn, TriedIn, decides-more, decides-within, puts-back, reads-of, refused}
use Rattle.mdinline_text_machine.proofs.Plain.Passed.{after-passed}
use Rattle.mdinline_text_machine.proofs.CodeSpans.Parts.{size_b, with_b, grows_b, more-is}
use Rattle.mdinline_text_machine.proofs.Autolinks.Calls.{link_calls, looked-once, scheme-allowed}
use Rattle.mdinline_text_machine.proofs.Autolinks.Classes.{scheme-class, scheme-refused}
use Rattle.mdinline_text_machine.proofs.Autolinks.Events.{IsJoined, begun_marked, ended_marked, marked-events, marked-front}
use Rattle.mdinline_text_machine.proofs.Autolinks.Places.{text-joined}
use Rattle.mdinline_text_machine.proofs.Texts.Counted.{after-call, after-more, after-sized}
use Rattle.mdinline_text_machine.proofs.Texts.Reads.{ReadsPart}

-- a scheme begins at a letter
open-class : (before : Option TextByte) (b : ℕ) → is_ascii_alphabetic b ≡ true → autolink_open_rows {R = Unit} {D = Unit} before (Some (text_byte b)) ≡ autolink_open_rows {R = Unit} {D = Unit} before (Some letter)
open-class before b h =
    by-class (λ w. autolink_open_rows {R = Unit} {D = Unit} before (Some w) ≡ autolink_open_rows {R = Unit} {D = Unit} before (Some letter)) b
    (λ e. absurd (grind (arith, nat_tests))) (λ e. absurd (grind (arith, nat_tests))) (λ e. absurd (grind (arith, nat_tests))) (λ e. absurd (grind (arith, nat_tests)))
    (λ e. absurd (grind (arith, nat_tests))) (λ e. absurd (grind (arith, nat_tests))) (λ e. refl) (λ e f. absurd (cc)) (λ e. absurd (grind (arith, nat_tests))) (λ e. absurd (grind (arith, nat_tests))) (λ e. absurd (grind (arith, nat_tests)))
    (λ o e. absurd (cc (o.6))) (λ o e. absurd (cc (o.6))) (λ o n e. absurd (cc (o.6)))

-- and at no other byte, nor at the end
open-refused : (before : Option TextByte) (o : Option ℕ) → passes is_ascii_alphabetic o ≡ false → autolink_open_rows {R = Unit} {D = Unit} before (class_of text_byte o) ≡ row [] Nok
open-refused before None h = refl
open-refused before (Some b) h =
    by-class (λ w. autolink_open_rows {R = Unit} {D = Unit} before (Some w) ≡ row [] Nok) b
    (λ e. refl) (λ e. refl) (λ e. refl) (λ e. refl) (λ e. refl) (λ e. refl) (λ e. absurd (cc)) (λ e f. refl) (λ e. refl) (λ e. refl) (λ e. refl) (λ o e. refl) (λ o e. refl) (λ o n e. refl)

-- behind the scheme all allowed bytes are read, and it may end at `>`
pub link-class : (before : Option TextByte) (b : ℕ) → is_allowed b ≡ true → autolink_url_rows {R = Unit} {D = Unit} before (Some (text_byte b)) ≡ row (consume ∷ []) (Next AutolinkUrlInside)
link-class before b h =
    by-class (λ w. autolink_url_rows {R = Unit} {D = Unit} before (Some w) ≡ row (consume ∷ []) (Next AutolinkUrlInside)) b
    (λ e. absurd (grind (arith, nat_tests))) (λ e. refl) (λ e. absurd (grind (arith, nat_tests))) (λ e. absurd (grind (arith, nat_tests)))
    (λ e. refl) (λ e. refl) (λ e. refl) (λ e f. refl) (λ e. refl) (λ e. refl) (λ e. absurd (grind (arith, nat_tests))) (λ o e. refl) (λ o e. absurd (grind (arith, nat_tests))) (λ o n e. refl)

-- any other byte refuses it, and so does the end
link-refused : (before : Option TextByte) (o : Option ℕ) → passes is_allowed o ≡ false → passes (λ b. b == 62) o ≡ false → autolink_url_rows {R = Unit} {D = Unit} before (class_of text_byte o) ≡ row [] Nok
link-refused before None h i = refl
link-refused before (Some b) h i =
    by-class (λ w. autolink_url_rows {R = Unit} {D = Unit} before (Some w) ≡ row [] Nok) b
    (λ e. refl) (λ e. absurd (grind (arith, nat_tests))) (λ e. refl) (λ e. absurd (cc))
    (λ e. absurd (grind (arith, nat_tests))) (λ e. absurd (grind (arith, nat_tests))) (λ e. absurd (grind (arith, nat_tests))) (λ e f. absurd (grind (arith, nat_tests))) (λ e. absurd (grind (arith, nat_tests))) (λ e. absurd (grind (arith, nat_tests))) (λ e. refl)
    (λ o e. absurd (grind (arith, nat_tests, o))) (λ o e. refl) (λ o n e. absurd (grind (arith, nat_tests, o)))

-- this many bytes are enough for a scheme, and not too many, and the first is a letter
abbrev is_long_enough : List ℕ → ℕ → Bool
is_long_enough text n = nat_le 2 n && (nat_le n 32 && has_byte_at text 0 is_ascii_alphabetic)

-- all bytes up to the first that no scheme has are bytes of schemes
all-scheme : (text : List ℕ) → list_all is_scheme_byte (take (prefix_len is_scheme_byte text) text) ≡ true
all-scheme [] = refl
all-scheme (b ∷ bs) = elim (is_scheme_byte b) as (λ t. is_scheme_byte b ≡ t → list_all is_scheme_byte (take (cond t (1 + prefix_len is_scheme_byte bs) 0) (b ∷ bs)) ≡ true) [
  | true ↦ λ e.
      let one : 1 + prefix_len is_scheme_byte bs ≡ suc (prefix_len is_scheme_byte bs) = omega arith in
      ap (λ n. list_all is_scheme_byte (take n (b ∷ bs))) one ∙ ap (λ t. t && list_all is_scheme_byte (take (prefix_len is_scheme_byte bs) bs)) e ∙ all-scheme bs
  | false ↦ λ e. refl
] refl

-- the first byte is the whole text's
first-of : (n : ℕ) (text : List ℕ) → is_long_enough (take n text) n ≡ is_long_enough text n
first-of zero text = refl
first-of (suc n) [] = refl
first-of (suc n) (b ∷ bs) = refl

-- so they are a scheme if they are long enough
front-is-scheme : (text : List ℕ) → let n = prefix_len is_scheme_byte text in is_scheme (take n text) ≡ is_long_enough text n
front-is-scheme text =
    let n = prefix_len is_scheme_byte text in
    ap (λ l. nat_le 2 l && (nat_le l 32 && (has_byte_at (take n text) 0 is_ascii_alphabetic && list_all is_scheme_byte (take n text)))) (length-prefix_len is_scheme_byte text)
    ∙ ap (λ t. nat_le 2 n && (nat_le n 32 && (has_byte_at (take n text) 0 is_ascii_alphabetic && t))) (all-scheme text)
    ∙ ap (λ t. nat_le 2 n && (nat_le n 32 && t)) (and-true (has_byte_at (take n text) 0 is_ascii_alphabetic))
    ∙ first-of n text

-- how long a scheme is that begins with a letter
scheme-is : (r : Seat) (rs : List Seat) → is_ascii_alphabetic r.byte ≡ true → prefix_len is_scheme_byte (bytes_of (r ∷ rs)) ≡ 1 + prefix_len is_scheme_byte (bytes_of rs)
scheme-is r rs h = let is : is_scheme_byte r.byte ≡ true = grind (arith, nat_tests) in ap (λ t. cond t (1 + prefix_len is_scheme_byte (bytes_of rs)) 0) is

-- the spans that are open
abbrev link_spans : List EventName
link_spans = Autolink ∷ AutolinkProtocol ∷ []

module _ (g : Given) (text : Text) (m : Plays g text) (names : Between) (nok : Name) (p : ℕ) (ended : Bool) (events : List Event) where
  -- what waits in the autolink that is tried at a place
  abbrev choices : List Choice
  choices = outer names.home nok p ended events ∷ []

  abbrev in_tried : ℕ → List Seat → Local Unit Unit → Configuration Unit Unit
  in_tried q l local = shows l link_spans q (begun_marked AutolinkProtocol g text events p) local

  -- the reading of an autolink is decided, within so many calls
  abbrev IsDecided : ℕ → List Seat → ℕ → List Seat → Local Unit Unit → Name → Option Found → Type 0
  IsDecided n seats q l local name o = DecidesIn g text m names n nok p ended events seats (in_tried q l local) choices (Retry name) o

  -- or more of them
  allows : (n n' : ℕ) (seats : List Seat) (q : ℕ) (l : List Seat) (local : Local Unit Unit) (name : Name) (o : Option Found) → n ≤ n' → IsDecided n seats q l local name o → IsDecided n' seats q l local name o
  allows n n' seats q l local name o fits d = decides-more g text m names n n' nok p ended events seats (in_tried q l local) choices (Retry name) o fits d

  -- it is rejected by a state whose row fails
  rejects : (table : (previous current : Option TextByte) → Rows Unit Unit) (name : Name)
      → ((k : Configuration Unit Unit) → m.step (sight g text k) k name ≡ row_step g text k (table (class_of text_byte (sight g text k).previous) (class_of text_byte (sight g text k).current)))
      → (seats : List Seat) (q : ℕ) (l : List Seat) (local : Local Unit Unit) → drop q text.seats ≡ l → table (before_class g text q) (class_of text_byte (first_byte l)) ≡ row [] Nok
      → IsDecided 1 seats q l local name None
  rejects table name has seats q l local at fails =
      (counts local, after-call local, refused g text m names table name has nok p ended events l link_spans q (begun_marked AutolinkProtocol g text events p) local at fails (marked-front AutolinkProtocol g text events p))

  -- a scheme is read whole, or rejected if it is too long
  reads-scheme : (n : ℕ) (seats l : List Seat) (q q' : ℕ) (local : Local Unit Unit) (o : Option Found) → drop q text.seats ≡ l → q' ≡ q + prefix_len is_scheme_byte (bytes_of l) → size_b local ≤ 32
      → (size_b local + prefix_len is_scheme_byte (bytes_of l) ≤ 32 → IsDecided n seats q' (past is_scheme_byte l) (passed is_scheme_byte grows_b l local) AutolinkSchemeInsideOrEmailAtext o)
      → (32 < size_b local + prefix_len is_scheme_byte (bytes_of l) → o ≡ None) → IsDecided (prefix_len is_scheme_byte (bytes_of l) + n) seats q l local AutolinkSchemeInsideOrEmailAtext o
  reads-scheme n seats [] q q' local o at is upto ends none =
      let same : q' ≡ q = omega (arith, is) in
      allows n (prefix_len is_scheme_byte (bytes_of []) + n) seats q [] local AutolinkSchemeInsideOrEmailAtext o (omega arith)
      (subst (λ q. IsDecided n seats q [] local AutolinkSchemeInsideOrEmailAtext o) same (ends (omega (arith, upto))))
  reads-scheme n seats (s ∷ ss) q q' local o at is upto ends none =
      let l = s ∷ ss in
      let more_bytes = prefix_len is_scheme_byte (bytes_of ss) in
      let size = size_b local in
      let front = at-front text.seats q s ss at in
      let next = drop-next text.seats q s ss at in
      elim (is_scheme_byte s.byte) as (λ b. is_scheme_byte s.byte ≡ b → q' ≡ q + cond b (1 + more_bytes) 0
      → (size + cond b (1 + more_bytes) 0 ≤ 32 → IsDecided n seats q' (cond b (past is_scheme_byte ss) l) (cond b (passed is_scheme_byte grows_b ss (grows_b local)) local) AutolinkSchemeInsideOrEmailAtext o)
      → (32 < size + cond b (1 + more_bytes) 0 → o ≡ None) → IsDecided (cond b (1 + more_bytes) 0 + n) seats q l local AutolinkSchemeInsideOrEmailAtext o) [
        | true ↦ λ e i more over.
            elim (cases_lt size 32) [
              | inl room ↦
                  let grown : more_than size ≡ size + 1 = more-is size (omega (arith, room)) in
                  decides-within g text m names 1 (more_bytes + n) (1 + more_bytes + n) nok p ended events seats (in_tried q l local) (in_tried (q + 1) ss (grows_b local)) choices choices
                  (Retry AutolinkSchemeInsideOrEmailAtext) (Retry AutolinkSchemeInsideOrEmailAtext) o (omega arith) (after-sized (more_than size) local)
                  (λ es h.
                  leads-tested g text m has_room autolink_scheme_rows (in_tried q l local) choices AutolinkSchemeInsideOrEmailAtext es (ap byte_of front)
                  (scheme-class (before_class g text q) s.byte e) (lt-ltb size 32 room) (m.autolink_scheme _)
                  (goes-next g text m ss link_spans (q + 1) (begun_marked AutolinkProtocol g text events p) (grows_b local) choices AutolinkSchemeInsideOrEmailAtext next es h))
                  (reads-scheme n seats ss (q + 1) q' (grows_b local) o next (omega (arith, i)) (omega (arith, grown, room)) (λ h. more (omega (arith, grown, h))) (λ h. over (omega (arith, grown, h))))
              | inr full ↦ subst (IsDecided (1 + more_bytes + n) seats q l local AutolinkSchemeInsideOrEmailAtext) (sym (over (omega (arith, full))))
                  (allows 1 (1 + more_bytes + n) seats q l local AutolinkSchemeInsideOrEmailAtext None (omega arith) (
                    counts local,
                    after-call local,
                    λ es h.
                        leads-tested g text m has_room autolink_scheme_rows (in_tried q l local) choices AutolinkSchemeInsideOrEmailAtext es (ap byte_of front)
                        (scheme-class (before_class g text q) s.byte e) (le-ltb size 32 full) (m.autolink_scheme _)
                        (puts-back g text m names nok p ended events (in_tried q l (counts local)) (marked-front AutolinkProtocol g text events p) es h),
                  ))
            ]
        | false ↦ λ e i more over.
            let same : q' ≡ q = omega (arith, i) in
            allows n (0 + n) seats q l local AutolinkSchemeInsideOrEmailAtext o (omega arith)
            (subst (λ q. IsDecided n seats q l local AutolinkSchemeInsideOrEmailAtext o) same (more (omega (arith, upto))))
      ] refl is ends none

module _ (g : Given) (text : Text) (m : Plays g text) (joined : IsJoined g text) (names : Between) (nok : Name) (p : ℕ) (ended : Bool) (events : List Event) (s r : Seat) (rs : List Seat) (here : drop p text.seats ≡ s ∷ r ∷ rs) (plain : (s.byte == 10) ≡ false) where
  -- the bytes, how many may be the scheme, and how many that is between the markers
  abbrev bytes : List ℕ
  bytes = bytes_of (s ∷ r ∷ rs)

  abbrev scheme_length : ℕ
  scheme_length = prefix_len is_scheme_byte (bytes_of (r ∷ rs))

  abbrev inside : ℕ
  inside = scheme_length + 1 + prefix_len is_allowed (drop (scheme_length + 1) (bytes_of (r ∷ rs)))

  -- the reading is decided from a place in it, within so many calls
  abbrev Decided : ℕ → ℕ → List Seat → Local Unit Unit → Name → Option Found → Type 0
  Decided n q l local name o = IsDecided g text m names nok p ended events n (s ∷ r ∷ rs) q l local name o

  -- one for each byte that is allowed, and one more
  abbrev calls_at : List Seat → ℕ
  calls_at l = prefix_len is_allowed (bytes_of l) + 1

  -- or more of them
  more : (n n' q : ℕ) (l : List Seat) (local : Local Unit Unit) (name : Name) (o : Option Found) → n ≤ n' → Decided n q l local name o → Decided n' q l local name o
  more n n' q l local name o fits d = allows g text m names nok p ended events n n' (s ∷ r ∷ rs) q l local name o fits d

  -- the seats behind the first marker
  behind : drop (p + 1) text.seats ≡ r ∷ rs
  behind = drop-next text.seats p s (r ∷ rs) here

  -- behind all allowed bytes it ends at `>`
  closes : (l : List Seat) (local : Local Unit Unit) → drop (p + 1 + inside) text.seats ≡ l → passes is_allowed (first_byte l) ≡ false
      → Decided 1 (p + 1 + inside) l local AutolinkUrlInside (cond (passes is_greater_than (first_byte l)) (Some (autolink inside)) None)
  closes [] local at none = rejects g text m names nok p ended events autolink_url_rows AutolinkUrlInside m.autolink_url (s ∷ r ∷ rs) (p + 1 + inside) [] local at refl
  closes (x ∷ xs) local at none =
      let q = p + 1 + inside in
      elim (x.byte == 62) as (λ b. (x.byte == 62) ≡ b → Decided 1 q (x ∷ xs) local AutolinkUrlInside (cond b (Some (autolink inside)) None)) [
        | true ↦ λ is.
            let further : q + 1 ≡ p + (inside + 2) = omega arith in
            let made = marked-events AutolinkProtocol g text joined events p inside s r x rs xs here plain (omega arith) at in (
              false,
              counts local,
              after-call local,
              λ es h.
                  leads-seen g text m autolink_url_rows (in_tried g text m names nok p ended events q (x ∷ xs) local) (choices g text m names nok p ended events) AutolinkUrlInside es
                  (ap byte_of (at-front text.seats q x xs at))
                  (ap (λ c. autolink_url_rows (before_class g text q) (Some (text_byte c))) (eqb-true x.byte 62 is)) (m.autolink_url _)
                  (leads-ok g text m (between_items (q + 1) Nothing false (ended_marked AutolinkProtocol g text (begun_marked AutolinkProtocol g text events p) q) (counts local)) (outer names.home nok p ended events) [] es
                  (rw (made, further) h)),
            )
        | false ↦ λ other.
            rejects g text m names nok p ended events autolink_url_rows AutolinkUrlInside m.autolink_url (s ∷ r ∷ rs) q (x ∷ xs) local at (link-refused (before_class g text q) (Some x.byte) none other)
      ] refl

  -- behind a whole scheme a colon is passed, and then all allowed bytes
  passes-colon : (c : Seat) (l : List Seat) (local : Local Unit Unit) → drop (p + 1 + scheme_length) text.seats ≡ c ∷ l → (c.byte == 58) ≡ true → nat_le 2 (size_b local) ≡ true
      → Decided (1 + calls_at l) (p + 1 + scheme_length) (c ∷ l) local AutolinkSchemeInsideOrEmailAtext (autolink_to bytes (Some inside))
  passes-colon c l local at colon long =
      let n = scheme_length in
      let q = p + 1 + n in
      let q' = p + 1 + inside in
      let next = drop-next text.seats q c l at in
      let place : p + 1 + (n + 1) ≡ q + 1 = omega arith in
      let tail : drop (n + 1) (r ∷ rs) ≡ l = ap (drop (n + 1)) (sym behind) ∙ drop-drop (n + 1) (p + 1) text.seats ∙ ap (λ i. drop i text.seats) place ∙ next in
      let same : prefix_len is_allowed (drop (n + 1) (bytes_of (r ∷ rs))) ≡ prefix_len is_allowed (bytes_of l) =
      ap (prefix_len is_allowed) (drop-map (λ (x : Seat). x.byte) (n + 1) (r ∷ rs) ∙ ap bytes_of tail) in
      let total : q' ≡ q + 1 + prefix_len is_allowed (bytes_of l) = omega (arith, same) in
      let rest = past is_allowed l in
      let at' : drop q' text.seats ≡ rest = past-at g text m is_allowed l (q + 1) q' next total in
      let marker : p + (inside + 1) ≡ q' = omega arith in
      let last = byte-behind text.seats p (inside + 1) (s ∷ r ∷ rs) rest here (ap (λ i. drop i text.seats) marker ∙ at') in
      let after = passed is_allowed counts l (counts local) in
      let waits = choices g text m names nok p ended events in
      let begun = begun_marked AutolinkProtocol g text events p in
      let length_allowed = prefix_len is_allowed (bytes_of l) in
      decides-within g text m names (1 + length_allowed) 1 (1 + calls_at l) nok p ended events (s ∷ r ∷ rs) (in_tried g text m names nok p ended events q (c ∷ l) local)
      (in_tried g text m names nok p ended events q' rest after) waits waits (Retry AutolinkSchemeInsideOrEmailAtext) (Retry AutolinkUrlInside) (autolink_to bytes (Some inside)) (omega arith)
      (after-more 1 length_allowed local (counts local) after (after-call local) (after-passed counts after-call is_allowed l (counts local)))
      (λ es h.
      leads-tested g text m has_scheme autolink_scheme_rows (in_tried g text m names nok p ended events q (c ∷ l) local) waits AutolinkSchemeInsideOrEmailAtext es (ap byte_of (at-front text.seats q c l at))
      (ap (λ b. autolink_scheme_rows (before_class g text q) (Some (text_byte b))) (eqb-true c.byte 58 colon)) long (m.autolink_scheme _)
      (goes-next g text m l link_spans (q + 1) begun (counts local) waits AutolinkUrlInside next es
      (loops g text m link_spans waits AutolinkUrlInside is_allowed counts
      (λ q ended events local s at is es.
      leads-seen g text m autolink_url_rows (held link_spans q Byte ended events local) waits AutolinkUrlInside es (ap byte_of at) (link-class (before_class g text q) s.byte is) (m.autolink_url _))
      l (q + 1) q' begun (counts local) next total es h)))
      (subst (λ o. Decided 1 q' rest after AutolinkUrlInside (cond (passes is_greater_than o) (Some (autolink inside)) None)) (sym last) (closes rest after at' (past-stops is_allowed l)))

  -- an autolink is rejected if no colon ends its scheme, or if its scheme is too short
  ends-scheme : (l : List Seat) (local : Local Unit Unit) → drop (p + 1 + scheme_length) text.seats ≡ l → passes is_scheme_byte (first_byte l) ≡ false → size_b local ≡ scheme_length
      → Decided (calls_at l) (p + 1 + scheme_length) l local AutolinkSchemeInsideOrEmailAtext (autolink_to bytes (cond (nat_le 2 scheme_length && passes is_colon (first_byte l)) (Some inside) None))
  ends-scheme [] local at none size =
      let q = p + 1 + scheme_length in
      subst (λ b. Decided (calls_at []) q [] local AutolinkSchemeInsideOrEmailAtext (autolink_to bytes (cond b (Some inside) None))) (sym (and-false (nat_le 2 scheme_length)))
      (more 1 (calls_at []) q [] local AutolinkSchemeInsideOrEmailAtext None (omega arith)
      (rejects g text m names nok p ended events autolink_scheme_rows AutolinkSchemeInsideOrEmailAtext m.autolink_scheme (s ∷ r ∷ rs) q [] local at refl))
  ends-scheme (c ∷ l) local at none size =
      let n = scheme_length in
      let q = p + 1 + n in
      let calls = calls_at (c ∷ l) in
      let Here = λ (b : Bool). Decided calls q (c ∷ l) local AutolinkSchemeInsideOrEmailAtext (autolink_to bytes (cond b (Some inside) None)) in
      elim (c.byte == 58) as (λ b. (c.byte == 58) ≡ b → Here (nat_le 2 n && b)) [
        | true ↦ λ colon.
            elim (nat_le 2 n) as (λ b. nat_le 2 n ≡ b → Here (b && true)) [
              | true ↦ λ long.
                  let allowed : is_allowed c.byte ≡ true = grind (arith, nat_tests) in
                  let one : calls ≡ 1 + prefix_len is_allowed (bytes_of l) + 1 = ap (λ t. cond t (1 + prefix_len is_allowed (bytes_of l)) 0 + 1) allowed in
                  more (1 + calls_at l) calls q (c ∷ l) local AutolinkSchemeInsideOrEmailAtext (autolink_to bytes (Some inside)) (omega (arith, one)) (passes-colon c l local at colon (ap (nat_le 2) size ∙ long))
              | false ↦ λ short. more 1 calls q (c ∷ l) local AutolinkSchemeInsideOrEmailAtext None (omega arith) (
                counts local,
                after-call local,
                λ es h.
                    leads-tested g text m has_scheme autolink_scheme_rows (in_tried g text m names nok p ended events q (c ∷ l) local) (choices g text m names nok p ended events) AutolinkSchemeInsideOrEmailAtext es
                    (ap byte_of (at-front text.seats q c l at))
                    (ap (λ b. autolink_scheme_rows (before_class g text q) (Some (text_byte b))) (eqb-true c.byte 58 colon)) (ap (nat_le 2) size ∙ short) (m.autolink_scheme _)
                    (puts-back g text m names nok p ended events (in_tried g text m names nok p ended events q (c ∷ l) (counts local)) (marked-front AutolinkProtocol g text events p) es h),
              )
            ] refl
        | false ↦ λ other.
            subst Here (sym (and-false (nat_le 2 n)))
            (more 1 calls q (c ∷ l) local AutolinkSchemeInsideOrEmailAtext None (omega arith)
            (rejects g text m names nok p ended events autolink_scheme_rows AutolinkSchemeInsideOrEmailAtext m.autolink_scheme (s ∷ r ∷ rs) q (c ∷ l) local at
            (scheme-refused (before_class g text q) (Some c.byte) none other)))
      ] refl

  -- so the tests of the item decide
  pub decides-link : (local : Local Unit Unit) → Decided (calls_at (r ∷ rs)) (p + 1) (r ∷ rs) local AutolinkOpen (autolink_to bytes (uri (bytes_of (r ∷ rs))))
  decides-link local =
      let n = scheme_length in
      let calls = calls_at (r ∷ rs) in
      let colon = has_byte_at (bytes_of (r ∷ rs)) n is_colon in
      let waits = choices g text m names nok p ended events in
      let Here = λ (b : Bool). Decided calls (p + 1) (r ∷ rs) local AutolinkOpen (autolink_to bytes (cond (b && colon) (Some inside) None)) in
      subst Here (sym (front-is-scheme (bytes_of (r ∷ rs))))
      (elim (is_ascii_alphabetic r.byte) as (λ a. is_ascii_alphabetic r.byte ≡ a → Here (nat_le 2 n && (nat_le n 32 && a))) [
        | true ↦ λ letter.
            let next = drop-next text.seats (p + 1) r rs behind in
            let is : n ≡ 1 + prefix_len is_scheme_byte (bytes_of rs) = scheme-is r rs letter in
            let place : p + 1 + n ≡ p + 1 + 1 + prefix_len is_scheme_byte (bytes_of rs) = omega (arith, is) in
            let first = with_b 1 (counts local) in
            let read = passed is_scheme_byte grows_b rs first in
            let rest = past is_scheme_byte rs in
            let at = past-at g text m is_scheme_byte rs (p + 1 + 1) (p + 1 + n) next place in
            let item = λ (b : Bool). autolink_to bytes (cond ((nat_le 2 n && (b && true)) && colon) (Some inside) None) in
            let allowed : is_allowed r.byte ≡ true = grind (arith, nat_tests) in
            let one : calls ≡ 1 + prefix_len is_allowed (bytes_of rs) + 1 = ap (λ t. cond t (1 + prefix_len is_allowed (bytes_of rs)) 0 + 1) allowed in
            decides-within g text m names 1 (prefix_len is_scheme_byte (bytes_of rs) + calls_at rest) calls nok p ended events (s ∷ r ∷ rs) (in_tried g text m names nok p ended events (p + 1) (r ∷ rs) local)
            (in_tried g text m names nok p ended events (p + 1 + 1) rs first) waits waits (Retry AutolinkOpen) (Retry AutolinkSchemeInsideOrEmailAtext) (item (nat_le n 32))
            (omega (arith, one, looked-once is_scheme_byte is_allowed scheme-allowed rs)) (after-sized 1 local)
            (λ es h.
            leads-seen g text m autolink_open_rows (in_tried g text m names nok p ended events (p + 1) (r ∷ rs) local) waits AutolinkOpen es (ap byte_of (at-front text.seats (p + 1) r rs behind))
            (open-class (before_class g text (p + 1)) r.byte letter) (m.autolink_open _)
            (goes-next g text m rs link_spans (p + 1 + 1) (begun_marked AutolinkProtocol g text events p) first waits AutolinkSchemeInsideOrEmailAtext next es h))
            (reads-scheme g text m names nok p ended events (calls_at rest) (s ∷ r ∷ rs) rs (p + 1 + 1) (p + 1 + n) first (item (nat_le n 32)) next place (omega arith)
            (λ fits.
            let size : size_b read ≡ n = omega (arith, passed-counts size_b grows_b (λ c h. more-is (size_b c) h) is_scheme_byte rs first (omega (arith, fits)), is) in
            let long = le-leb n 32 (omega (arith, fits, is)) in
            let same : (nat_le 2 n && passes is_colon (first_byte rest)) ≡ ((nat_le 2 n && (nat_le n 32 && true)) && colon) =
            ap (λ o. nat_le 2 n && passes is_colon o) (sym (byte-behind text.seats (p + 1) n (r ∷ rs) rest behind at))
            ∙ ap (λ t. t && colon) (sym (ap (λ t. nat_le 2 n && (t && true)) long ∙ and-true (nat_le 2 n))) in
            subst (λ b. Decided (calls_at rest) (p + 1 + n) rest read AutolinkSchemeInsideOrEmailAtext (autolink_to bytes (cond b (Some inside) None))) same
            (ends-scheme rest read at (past-stops is_scheme_byte rs) size))
            (λ over. ap item (lt-leb n 32 (omega (arith, over, is))) ∙ ap (λ t. autolink_to bytes (cond (t && colon) (Some inside) None)) (and-false (nat_le 2 n))))
        | false ↦ λ other.
            let none : (nat_le 2 n && (nat_le n 32 && false)) ≡ false = ap (λ t. nat_le 2 n && t) (and-false (nat_le n 32)) ∙ and-false (nat_le 2 n) in
            subst Here (sym none)
            (more 1 calls (p + 1) (r ∷ rs) local AutolinkOpen None (omega arith)
            (rejects g text m names nok p ended events autolink_open_rows AutolinkOpen m.autolink_open (s ∷ r ∷ rs) (p + 1) (r ∷ rs) local behind (open-refused (before_class g text (p + 1)) (Some r.byte) other)))
      ] refl)

module _ (g : Given) (text : Text) (m : Plays g text) (names : Between) where
  -- If the construct is on, an autolink is tried at its marker
  tries-marker : (n n' : ℕ) (nok : Name) (p : ℕ) (ended : Bool) (events : List Event) (local : Local Unit Unit) (s : Seat) (ss : List Seat) → drop p text.seats ≡ s ∷ ss → s.byte ≡ 60 → 1 + n ≤ n'
      → (o : Option Found) → IsDecided g text m names nok p ended events n (s ∷ ss) (p + 1) ss (counts local) AutolinkOpen o → TriedIn g text m names n' AutolinkStart nok p ended events local (s ∷ ss) o
  tries-marker n n' nok p ended events local s ss here is fits o decided =
      let begun = begun_marked AutolinkProtocol g text events p in
      let waits = outer names.home nok p ended events ∷ [] in
      decides-within g text m names 1 n n' nok p ended events (s ∷ ss) (between_items p Byte ended events local) (shows ss link_spans (p + 1) begun (counts local)) waits waits (Retry AutolinkStart)
      (Retry AutolinkOpen) o fits (after-call local)
      (λ es h.
      leads-row g text m (row (enter Autolink ∷ enter AutolinkMarker ∷ consume ∷ exit AutolinkMarker ∷ enter AutolinkProtocol ∷ []) (Next AutolinkOpen)) (between_items p Byte ended events local) waits AutolinkStart es (m.autolink_start _)
      (goes-next g text m ss link_spans (p + 1) begun (counts local) waits AutolinkOpen (drop-next text.seats p s ss here) es h))
      decided

  -- So autolinks are tried at `<`
  pub tries-autolink : IsJoined g text → (nok : Name) (p : ℕ) (ended : Bool) (events : List Event) (local : Local Unit Unit) (s : Seat) (ss : List Seat) → drop p text.seats ≡ s ∷ ss → s.byte ≡ 60
      → TriedIn g text m names (link_calls (bytes_of (s ∷ ss))) AutolinkStart nok p ended events local (s ∷ ss) (autolink_at (bytes_of (s ∷ ss)))
  tries-autolink joined nok p ended events local s [] here is =
      let calls = link_calls (bytes_of (s ∷ [])) in
      subst (λ b. TriedIn g text m names calls AutolinkStart nok p ended events local (s ∷ []) (cond b (autolink_to (bytes_of (s ∷ [])) (uri [])) None)) (sym (ap (λ b. b == 60) is))
      (tries-marker 1 calls nok p ended events local s [] here is (omega arith) None
      (rejects g text m names nok p ended events autolink_open_rows AutolinkOpen m.autolink_open (s ∷ []) (p + 1) [] (counts local) (drop-next text.seats p s [] here) refl))
  tries-autolink joined nok p ended events local s (r ∷ rs) here is =
      let calls = link_calls (bytes_of (s ∷ r ∷ rs)) in
      subst (λ b. TriedIn g text m names calls AutolinkStart nok p ended events local (s ∷ r ∷ rs) (cond b (autolink_to (bytes_of (s ∷ r ∷ rs)) (uri (bytes_of (r ∷ rs)))) None)) (sym (ap (λ b. b == 60) is))
      (tries-marker (prefix_len is_allowed (bytes_of (r ∷ rs)) + 1) calls nok p ended events local s (r ∷ rs) here is (omega arith) (autolink_to (bytes_of (s ∷ r ∷ rs)) (uri (bytes_of (r ∷ rs))))
      (decides-link g text m joined names nok p ended events s r rs here (ap (λ b. b == 10) is) (counts local)))

-- The theorem of autolinks, within so many calls
pub autolinks-reads-in : (g : Given) (text : Text) (m : Plays g text) (names : Between) → IsText g text → ReadsIn g text m names link_calls autolinks
autolinks-reads-in g text m names is nok p ended events local s ss here first =
    tries-autolink g text m names (text-joined g text is) nok p ended events local s ss here (eqb-true s.byte 60 first)

pub autolinks-read : (g : Given) (text : Text) (m : Plays g text) (names : Between) → IsText g text → ReadsPart g text m names autolinks
autolinks-read g text m names is = reads-of g text m names link_calls autolinks (autolinks-reads-in g text m names is)
