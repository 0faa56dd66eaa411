-- Email autolinks, as a machine of texts reads them: if one is there, it is read whole, with its events; if not, what was tried leaves nothing.
use Rattle.mdinline_constructs.proofs.Prelude.{and_comm, drop-next, Seat, Event, Autolink, AutolinkEmail, AutolinkMarker, Name, Next, Nok, Ok, Retry, AutolinkEmailAtSignOrDot, AutolinkEmailAtext, AutolinkEmailLabel, AutolinkEmailValue, with_local, Choice, Configuration, Local, Step, Sight, byte_of, sight, Given, IsText, Text, Byte, Nothing, row_step, at-front, held, counts, email, email_at, email_with, is_at_sign, is_atext, is_domain, is_domain_byte, is_dot, is_hyphen, is_domain_label, domain_ends, email_atext_rows, email_label_rows, email_start_rows, email_value_rows, emails, label_end_rows, label_ends, label_goes_on, label_has_hyphen, label_rows, name_ends, name_goes_on, Rows, class_of, consume, enter, exit, row, when, write, after-sized, link_calls, looked-once, IsJoined, text-joined, grows_b, more-is, size_b, with_b, outer, DecidesIn, ReadsIn, TriedIn, decides-more, decides-within, puts-back, refused, after-passed, byte-behind, first_byte, goes-next, loops, passed, past, past-at, past-stops, shows, IsAfter, after-call, Ending, EndsWith, HasRow, HasRows, Plays, before_class, between_items, leads-ok, leads-row, leads-seen, tested, is_allowed, has_byte_at, is_greater_than, passes, Between, Found, bytes_of, text_byte, more_than, size_b_grows, size_b_is, Bool, List, None, Option, Some, [], ap, arith, cond, drop, false, nat_lt, refl, slice_get, subst, suc, sym, take, true, ℕ, ◌&&◌, ◌++◌, ◌+◌, ◌<◌, ◌==◌, ◌∙◌, ◌∷◌, ◌≡◌, ◌≤◌, and-false, and_parts, eqb-true, lt-ltb, ltb-true, nat_tests, drop-drop, drop-map, is_ascii_alphanumeric, list_all, prefix_len, EventName}
use Rattle.mdinline_constructs.proofs.Emails.Calls.{alphanumeric-allowed, at-sign-allowed, atext-allowed, dot-allowed, hyphen-allowed}
use Rattle.mdinline_constructs.proofs.Emails.Domains.{domain-left, left_of_domain, more, none-begun, pieces-some}
use Rattle.mdinline_text_machine.proofs.Autolinks.Events.{begun_marked, ended_marked, marked-events, marked-front}

-- A machine that reads email autolinks: at the names of their states it does what their rows say
pub record PlaysEmails (g : Given) (text : Text) (m : Plays g text) : Type 0 where
  pub email_start : HasRows g text m.step AutolinkEmailAtSignOrDot email_start_rows
  pub email_atext : HasRows g text m.step AutolinkEmailAtext email_atext_rows
  pub email_label : HasRows g text m.step AutolinkEmailLabel email_label_rows
  pub email_value : HasRows g text m.step AutolinkEmailValue email_value_rows

-- the spans that are open
abbrev email_spans : List EventName
email_spans = Autolink ∷ AutolinkEmail ∷ []

-- an email autolink, if so many bytes of its address were read, and so many are left
abbrev email_of : ℕ → Option ℕ → Option Found
email_of i None = None
email_of i (Some d) = Some (email (i + d))

email-more : (i : ℕ) (o : Option ℕ) → email_of (i + 1) o ≡ email_of i (more o)
email-more i None = refl
email-more i (Some d) = let same : i + 1 + d ≡ i + (1 + d) = omega arith in ap (λ n. Some (email n)) same

-- the state that reads a label, behind `-` or not, and its rows
abbrev label_name : Bool → Name
label_name true = AutolinkEmailValue
label_name false = AutolinkEmailLabel

abbrev goes_label : Rows Unit Unit
goes_label = row (write size_b_grows ∷ consume ∷ []) (Next AutolinkEmailLabel)

abbrev goes_value : Rows Unit Unit
goes_value = row (write size_b_grows ∷ consume ∷ []) (Next AutolinkEmailValue)

abbrev next_label : Rows Unit Unit
next_label = row (write (size_b_is 0) ∷ consume ∷ []) (Next AutolinkEmailLabel)

abbrev ends_email : Rows Unit Unit
ends_email = row (exit AutolinkEmail ∷ enter AutolinkMarker ∷ consume ∷ exit AutolinkMarker ∷ exit Autolink ∷ []) Ok

abbrev closing_rows : Rows Unit Unit
closing_rows = when domain_ends ends_email (row [] Nok)

abbrev goes_name : Rows Unit Unit
goes_name = row (write (size_b_is 1) ∷ consume ∷ []) (Next AutolinkEmailAtext)

abbrev behind_label : Bool → Rows Unit Unit
behind_label true = row [] Nok
behind_label false = label_end_rows

two-tests : (a b c : Bool) (item : Found) → cond (a && (b && c)) (Some item) None ≡ cond (a && b) (cond c (Some item) None) None
two-tests true true c item = refl
two-tests true false c item = refl
two-tests false b c item = refl

of-there : (t : Bool) (i d : ℕ) → email_of i (cond t (Some d) None) ≡ cond t (Some (email (i + d))) None
of-there true i d = refl
of-there false i d = refl

-- email autolinks by their bytes behind `<`
email-is : (b : ℕ) (bs : List ℕ) (n : ℕ) → email_with (b ∷ bs) n ≡ cond (nat_lt 0 n && has_byte_at bs n is_at_sign) (email_of (n + 1) (left_of_domain false 0 (drop (n + 1) bs))) None
email-is b bs n =
    let one : n + 1 ≡ suc n = omega arith in
    let two : n + 2 ≡ suc (n + 1) = omega arith in
    let domain = drop (n + 1) bs in
    let d = prefix_len is_domain_byte domain in
    let there = λ (t : Bool). cond t (Some (email (n + 1 + d))) None in
    let ends = is_domain (take d domain) && has_byte_at domain d is_greater_than in
    let left : left_of_domain false 0 domain ≡ cond ends (Some d) None =
    domain-left false 0 [] domain none-begun ∙ ap (λ ps. cond (list_all is_domain_label ps && has_byte_at domain d is_greater_than) (Some d) None) (pieces-some (take d domain)) in
    (λ i. let l = drop (two i) (b ∷ bs) in let e = prefix_len is_domain_byte l in
    cond (nat_lt 0 n && (has_byte_at (b ∷ bs) (one i) is_at_sign && (is_domain (take e l) && has_byte_at l e is_greater_than))) (Some (email (n + 1 + e))) None)
    ∙ two-tests (nat_lt 0 n) (has_byte_at bs n is_at_sign) ends (email (n + 1 + d))
    ∙ ap (λ o. cond (nat_lt 0 n && has_byte_at bs n is_at_sign) o None) (sym (ap (email_of (n + 1)) left ∙ of-there ends (n + 1) d))

-- in a call that reads a character before `@`
abbrev name_read : Local Unit Unit → Local Unit Unit
name_read local = with_b 1 (counts local)

-- the size tells whether one was read
reads-one : (l : List Seat) (local : Local Unit Unit) → size_b local ≡ 1 → size_b (passed is_atext name_read l local) ≡ 1
reads-one [] local h = h
reads-one (s ∷ ss) local h = elim (is_atext s.byte) as (λ t. size_b (cond t (passed is_atext name_read ss (name_read local)) local) ≡ 1) [
  | true ↦ reads-one ss (name_read local) refl
  | false ↦ h
]

reads-some : (l : List Seat) (local : Local Unit Unit) → size_b local ≡ 0 → nat_lt 0 (size_b (passed is_atext name_read l local)) ≡ nat_lt 0 (prefix_len is_atext (bytes_of l))
reads-some [] local h = ap (nat_lt 0) h
reads-some (s ∷ ss) local h = elim (is_atext s.byte) as (λ t. nat_lt 0 (size_b (cond t (passed is_atext name_read ss (name_read local)) local)) ≡ nat_lt 0 (cond t (1 + prefix_len is_atext (bytes_of ss)) 0)) [
  | true ↦ ap (nat_lt 0) (reads-one ss (name_read local) refl) ∙ sym (lt-ltb 0 (1 + prefix_len is_atext (bytes_of ss)) (omega arith))
  | false ↦ ap (nat_lt 0) h
]

module _ (g : Given) (text : Text) (m : Plays g text) (e : PlaysEmails g text m) (names : Between) (joined : IsJoined g text) (nok : Name) (p : ℕ) (ended : Bool) (events : List Event) (s r : Seat) (rs : List Seat) (here : drop p text.seats ≡ s ∷ r ∷ rs) (plain : (s.byte == 10) ≡ false) where
  -- what waits in the autolink that is tried at a place
  abbrev choices : List Choice
  choices = outer names.home nok p ended events ∷ []

  abbrev in_tried : ℕ → List Seat → Local Unit Unit → Configuration Unit Unit
  in_tried q l local = shows l email_spans q (begun_marked AutolinkEmail g text events p) local

  -- its reading is decided from a place in it, within so many calls
  abbrev IsDecided : ℕ → ℕ → List Seat → Local Unit Unit → Name → Option Found → Type 0
  IsDecided n q l local name o = DecidesIn g text m names n nok p ended events (s ∷ r ∷ rs) (in_tried q l local) choices (Retry name) o

  -- one for each byte that is allowed, and one more
  abbrev calls_at : List Seat → ℕ
  calls_at l = prefix_len is_allowed (bytes_of l) + 1

  -- or one
  in-one : (q : ℕ) (l : List Seat) (local : Local Unit Unit) (name : Name) (o : Option Found) → IsDecided 1 q l local name o → IsDecided (calls_at l) q l local name o
  in-one q l local name o d = decides-more g text m names 1 (calls_at l) nok p ended events (s ∷ r ∷ rs) (in_tried q l local) choices (Retry name) o (omega arith) d

  -- what is read on from the step of rows
  abbrev Goes : Configuration Unit Unit → Ending → Rows Unit Unit → Type 0
  Goes k es rows = let q = row_step g text k rows in EndsWith g text m q.configuration (q.choices ++ choices) q.answer es

  -- of two rows a test picks one
  picks : (test : Given → Sight → Configuration Unit Unit → Bool) (a b : Rows Unit Unit) (k : Configuration Unit Unit) (es : Ending) (t : Bool) → test g (sight g text k) (with_local k (counts k.local)) ≡ t
      → Goes k es (cond t a b) → Goes k es (when test a b)
  picks test a b k es t is h = subst (λ (q : Step Unit Unit). EndsWith g text m q.configuration (q.choices ++ choices) q.answer es) (sym (tested g text test a b k t is)) h

  -- it is rejected by a state whose row fails
  rejects : (name : Name) (q : ℕ) (l : List Seat) (local : Local Unit Unit) (rows : Rows Unit Unit) → HasRow g text m.step (in_tried q l local) name rows
      → ((es : Ending) → Goes (in_tried q l local) es (row [] Nok) → Goes (in_tried q l local) es rows) → IsDecided (calls_at l) q l local name None
  rejects name q l local rows has fails = in-one q l local name None (
    counts local,
    after-call local,
    λ es h. leads-row g text m rows (in_tried q l local) choices name es has (fails es (puts-back g text m names nok p ended events (in_tried q l (counts local)) (marked-front AutolinkEmail g text events p) es h)),
  )

  -- a byte that is allowed is read, and a state follows
  goes-on : (name next : Name) (q : ℕ) (x : Seat) (xs : List Seat) (local after : Local Unit Unit) (rows : Rows Unit Unit) (o : Option Found) → drop q text.seats ≡ x ∷ xs → is_allowed x.byte ≡ true
      → IsAfter 1 local after → HasRow g text m.step (in_tried q (x ∷ xs) local) name rows
      → ((es : Ending) → EndsWith g text m (held email_spans (q + 1) Nothing false (begun_marked AutolinkEmail g text events p) after) choices (Next next) es → Goes (in_tried q (x ∷ xs) local) es rows)
      → IsDecided (calls_at xs) (q + 1) xs after next o → IsDecided (calls_at (x ∷ xs)) q (x ∷ xs) local name o
  goes-on name next q x xs local after rows o at allowed one has goes decided =
      let calls : calls_at (x ∷ xs) ≡ 1 + prefix_len is_allowed (bytes_of xs) + 1 = ap (λ t. cond t (1 + prefix_len is_allowed (bytes_of xs)) 0 + 1) allowed in
      decides-within g text m names 1 (calls_at xs) (calls_at (x ∷ xs)) nok p ended events (s ∷ r ∷ rs) (in_tried q (x ∷ xs) local) (in_tried (q + 1) xs after) choices choices (Retry name) (Retry next) o
      (omega (arith, calls)) one
      (λ es h. leads-row g text m rows (in_tried q (x ∷ xs) local) choices name es has
      (goes es (goes-next g text m xs email_spans (q + 1) (begun_marked AutolinkEmail g text events p) after choices next (drop-next text.seats q x xs at) es h)))
      decided

  -- the rows of the states at a byte and at the end
  label-rows : (hyphen : Bool) (q : ℕ) (x : Seat) (xs : List Seat) (local : Local Unit Unit) → drop q text.seats ≡ x ∷ xs
      → HasRow g text m.step (in_tried q (x ∷ xs) local) (label_name hyphen) (label_rows (behind_label hyphen))
  label-rows true q x xs local at =
      let k = in_tried q (x ∷ xs) local in
      e.email_value k ∙ ap (λ o. row_step g text k (email_value_rows (before_class g text q) (class_of text_byte (byte_of o)))) (at-front text.seats q x xs at)
  label-rows false q x xs local at =
      let k = in_tried q (x ∷ xs) local in
      e.email_label k ∙ ap (λ o. row_step g text k (email_label_rows (before_class g text q) (class_of text_byte (byte_of o)))) (at-front text.seats q x xs at)

  label-ends : (hyphen : Bool) (q : ℕ) (local : Local Unit Unit) → HasRow g text m.step (in_tried q [] local) (label_name hyphen) (row [] Nok)
  label-ends true q local = e.email_value (in_tried q [] local)
  label-ends false q local = e.email_label (in_tried q [] local)

  -- `>` ends it
  closes : (q i : ℕ) (x : Seat) (xs : List Seat) (local : Local Unit Unit) (rows : Rows Unit Unit) (name : Name) → drop q text.seats ≡ x ∷ xs → q ≡ p + 1 + i → 0 < i
      → HasRow g text m.step (in_tried q (x ∷ xs) local) name rows
      → ((es : Ending) → Goes (in_tried q (x ∷ xs) local) es ends_email → Goes (in_tried q (x ∷ xs) local) es rows)
      → IsDecided (calls_at (x ∷ xs)) q (x ∷ xs) local name (Some (email i))
  closes q i x xs local rows name at is some has goes =
      let further : q + 1 ≡ p + (i + 2) = omega (arith, is) in
      let made = marked-events AutolinkEmail g text joined events p i s r x rs xs here plain some (ap (λ q. drop q text.seats) (sym is) ∙ at) in
      let place : ended_marked AutolinkEmail g text (begun_marked AutolinkEmail g text events p) q ≡ ended_marked AutolinkEmail g text (begun_marked AutolinkEmail g text events p) (p + 1 + i) = ap (ended_marked AutolinkEmail g text (begun_marked AutolinkEmail g text events p)) is in
      in-one q (x ∷ xs) local name (Some (email i)) (
        false,
        counts local,
        after-call local,
        λ es h.
            leads-row g text m rows (in_tried q (x ∷ xs) local) choices name es has
            (goes es
            (leads-ok g text m (between_items (q + 1) Nothing false (ended_marked AutolinkEmail g text (begun_marked AutolinkEmail g text events p) q) (counts local)) (outer names.home nok p ended events) [] es
            (rw (place, made, further) h))),
      )

  -- the domain is read byte by byte
  decides-domain : (l : List Seat) (q i : ℕ) (hyphen : Bool) (n : ℕ) (local : Local Unit Unit) → drop q text.seats ≡ l → q ≡ p + 1 + i → 0 < i → size_b local ≡ n → n ≤ 63
      → IsDecided (calls_at l) q l local (label_name hyphen) (email_of i (left_of_domain hyphen n (bytes_of l)))
  decides-domain [] q i hyphen n local at is some size fits = rejects (label_name hyphen) q [] local (row [] Nok) (label-ends hyphen q local) (λ es h. h)
  decides-domain (x ∷ xs) q i hyphen n local at is some size fits =
      let k = in_tried q (x ∷ xs) local in
      let b = x.byte in
      let name = label_name hyphen in
      let has = label-rows hyphen q x xs local at in
      let waits : byte_of (slice_get text.seats q) ≡ Some b = ap byte_of (at-front text.seats q x xs at) in
      let next = drop-next text.seats q x xs at in
      let place : q + 1 ≡ p + 1 + (i + 1) = omega (arith, is) in
      let A = more (left_of_domain false (n + 1) (bytes_of xs)) in
      let Y = more (left_of_domain true (n + 1) (bytes_of xs)) in
      let D = more (left_of_domain false 0 (bytes_of xs)) in
      let first = is_ascii_alphanumeric b && nat_lt n 63 in
      let second = is_hyphen b && (nat_lt 0 n && nat_lt n 63) in
      let third = is_dot b && nat_lt 0 n in
      let last = is_greater_than b && nat_lt 0 n in
      let tests_first : (passes is_ascii_alphanumeric (byte_of (slice_get text.seats q)) && nat_lt (size_b local) 63) ≡ first = (λ j. passes is_ascii_alphanumeric (waits j) && nat_lt (size j) 63) in
      let tests_second : (passes is_hyphen (byte_of (slice_get text.seats q)) && (nat_lt 0 (size_b local) && nat_lt (size_b local) 63)) ≡ second =
      (λ j. passes is_hyphen (waits j) && (nat_lt 0 (size j) && nat_lt (size j) 63)) in
      let tests_third : (passes is_dot (byte_of (slice_get text.seats q)) && nat_lt 0 (size_b local)) ≡ third = (λ j. passes is_dot (waits j) && nat_lt 0 (size j)) in
      let tests_last : (passes is_greater_than (byte_of (slice_get text.seats q)) && nat_lt 0 (size_b local)) ≡ last = (λ j. passes is_greater_than (waits j) && nat_lt 0 (size j)) in
      let grown : n < 63 → size_b (grows_b local) ≡ n + 1 = λ room. more-is (size_b local) (omega (arith, room, size)) ∙ ap (λ k. k + 1) size in
      let label_first = λ (es : Ending) (t : Bool) (is : first ≡ t). picks label_goes_on goes_label (when label_has_hyphen goes_value (behind_label hyphen)) k es t (tests_first ∙ is) in
      let label_second = λ (es : Ending) (t : Bool) (is : second ≡ t). picks label_has_hyphen goes_value (behind_label hyphen) k es t (tests_second ∙ is) in
      elim first as (λ t. first ≡ t → IsDecided (calls_at (x ∷ xs)) q (x ∷ xs) local name (email_of i (cond t A (cond second Y (cond hyphen None (cond third D (cond last (Some 0) None))))))) [
        | true ↦ λ one.
            let parts = and_parts (is_ascii_alphanumeric b) (nat_lt n 63) one in
            let room : n < 63 = ltb-true n 63 parts.1 in
            goes-on name AutolinkEmailLabel q x xs local (grows_b local) (label_rows (behind_label hyphen)) (email_of i A) at (alphanumeric-allowed b parts.0) (after-sized (more_than (size_b local)) local) has (λ es h. label_first es true one h)
            (subst (IsDecided (calls_at xs) (q + 1) xs (grows_b local) AutolinkEmailLabel) (email-more i (left_of_domain false (n + 1) (bytes_of xs)))
            (decides-domain xs (q + 1) (i + 1) false (n + 1) (grows_b local) next place (omega arith) (grown room) (omega (arith, room))))
        | false ↦ λ one. elim second as (λ t. second ≡ t → IsDecided (calls_at (x ∷ xs)) q (x ∷ xs) local name (email_of i (cond t Y (cond hyphen None (cond third D (cond last (Some 0) None)))))) [
          | true ↦ λ two.
              let parts = and_parts (is_hyphen b) (nat_lt 0 n && nat_lt n 63) two in
              let room : n < 63 = ltb-true n 63 (and_parts (nat_lt 0 n) (nat_lt n 63) parts.1).1 in
              goes-on name AutolinkEmailValue q x xs local (grows_b local) (label_rows (behind_label hyphen)) (email_of i Y) at (hyphen-allowed b parts.0) (after-sized (more_than (size_b local)) local) has (λ es h. label_first es false one (label_second es true two h))
              (subst (IsDecided (calls_at xs) (q + 1) xs (grows_b local) AutolinkEmailValue) (email-more i (left_of_domain true (n + 1) (bytes_of xs)))
              (decides-domain xs (q + 1) (i + 1) true (n + 1) (grows_b local) next place (omega arith) (grown room) (omega (arith, room))))
          | false ↦ λ two. elim hyphen as (λ (t : Bool). HasRow g text m.step k (label_name t) (label_rows (behind_label t)) → IsDecided (calls_at (x ∷ xs)) q (x ∷ xs) local (label_name t) (email_of i (cond t None (cond third D (cond last (Some 0) None))))) [
            | true ↦ λ has. rejects AutolinkEmailValue q (x ∷ xs) local (label_rows (row [] Nok)) has
                (λ es h. picks label_goes_on goes_label (when label_has_hyphen goes_value (row [] Nok)) k es false (tests_first ∙ one) (picks label_has_hyphen goes_value (row [] Nok) k es false (tests_second ∙ two) h))
            | false ↦ λ has.
                let passed_over = λ (es : Ending) (h : Goes k es label_end_rows). picks label_goes_on goes_label (when label_has_hyphen goes_value label_end_rows) k es false (tests_first ∙ one) (picks label_has_hyphen goes_value label_end_rows k es false (tests_second ∙ two) h) in
                elim third as (λ t. third ≡ t → IsDecided (calls_at (x ∷ xs)) q (x ∷ xs) local AutolinkEmailLabel (email_of i (cond t D (cond last (Some 0) None)))) [
                  | true ↦ λ dotted.
                      goes-on AutolinkEmailLabel AutolinkEmailLabel q x xs local (with_b 0 (counts local)) (label_rows label_end_rows) (email_of i D) at
                      (dot-allowed b (and_parts (is_dot b) (nat_lt 0 n) dotted).0) (after-sized 0 local) has
                      (λ es h. passed_over es (picks label_ends next_label closing_rows k es true (tests_third ∙ dotted) h))
                      (subst (IsDecided (calls_at xs) (q + 1) xs (with_b 0 (counts local)) AutolinkEmailLabel) (email-more i (left_of_domain false 0 (bytes_of xs)))
                      (decides-domain xs (q + 1) (i + 1) false 0 (with_b 0 (counts local)) next place (omega arith) refl (omega arith)))
                  | false ↦ λ dotted. elim last as (λ t. last ≡ t → IsDecided (calls_at (x ∷ xs)) q (x ∷ xs) local AutolinkEmailLabel (email_of i (cond t (Some 0) None))) [
                    | true ↦ λ closing.
                        let same : i ≡ i + 0 = omega arith in
                        subst (λ n. IsDecided (calls_at (x ∷ xs)) q (x ∷ xs) local AutolinkEmailLabel (Some (email n))) same
                        (closes q i x xs local (label_rows label_end_rows) AutolinkEmailLabel at is some has
                        (λ es h. passed_over es (picks label_ends next_label closing_rows k es false (tests_third ∙ dotted) (picks domain_ends ends_email (row [] Nok) k es true (tests_last ∙ closing) h))))
                    | false ↦ λ closing. rejects AutolinkEmailLabel q (x ∷ xs) local (label_rows label_end_rows) has
                        (λ es h. passed_over es (picks label_ends next_label closing_rows k es false (tests_third ∙ dotted) (picks domain_ends ends_email (row [] Nok) k es false (tests_last ∙ closing) h)))
                  ] refl
                ] refl
          ] has
        ] refl
      ] refl

  -- behind a name `@` must follow
  at-name-end : (rest : List Seat) (local : Local Unit Unit) → let n = prefix_len is_atext (bytes_of (r ∷ rs)) in drop (p + 1 + n) text.seats ≡ rest → passes is_atext (first_byte rest) ≡ false
      → nat_lt 0 (size_b local) ≡ nat_lt 0 n
      → IsDecided (calls_at rest) (p + 1 + n) rest local AutolinkEmailAtext (cond (nat_lt 0 n && passes is_at_sign (first_byte rest)) (email_of (n + 1) (left_of_domain false 0 (drop (n + 1) (bytes_of (r ∷ rs))))) None)
  at-name-end [] local at stops size =
      let n = prefix_len is_atext (bytes_of (r ∷ rs)) in
      let q = p + 1 + n in
      let k = in_tried q [] local in
      let o = λ (t : Bool). cond t (email_of (n + 1) (left_of_domain false 0 (drop (n + 1) (bytes_of (r ∷ rs))))) None in
      subst (λ t. IsDecided (calls_at []) q [] local AutolinkEmailAtext (o t)) (sym (and-false (nat_lt 0 n))) (rejects AutolinkEmailAtext q [] local (row [] Nok) (e.email_atext k) (λ es h. h))
  at-name-end (x ∷ xs) local at stops size =
      let n = prefix_len is_atext (bytes_of (r ∷ rs)) in
      let q = p + 1 + n in
      let k = in_tried q (x ∷ xs) local in
      let waits : byte_of (slice_get text.seats q) ≡ Some x.byte = ap byte_of (at-front text.seats q x xs at) in
      let has : HasRow g text m.step k AutolinkEmailAtext (email_atext_rows (before_class g text q) (Some (text_byte x.byte))) =
      e.email_atext k ∙ ap (λ o. row_step g text k (email_atext_rows (before_class g text q) (class_of text_byte o))) waits in
      let o = λ (t : Bool). cond t (email_of (n + 1) (left_of_domain false 0 (drop (n + 1) (bytes_of (r ∷ rs))))) None in
      let swapped : (nat_lt 0 n && is_at_sign x.byte) ≡ (is_at_sign x.byte && nat_lt 0 n) = and_comm (nat_lt 0 n) (is_at_sign x.byte) in
      let tests : (passes is_at_sign (byte_of (slice_get text.seats q)) && nat_lt 0 (size_b local)) ≡ (nat_lt 0 n && is_at_sign x.byte) = (λ j. passes is_at_sign (waits j) && size j) ∙ sym swapped in
      elim (nat_lt 0 n && is_at_sign x.byte) as (λ t. (nat_lt 0 n && is_at_sign x.byte) ≡ t → IsDecided (calls_at (x ∷ xs)) q (x ∷ xs) local AutolinkEmailAtext (o t)) [
        | true ↦ λ is.
            let behind : drop (p + 1) text.seats ≡ r ∷ rs = drop-next text.seats p s (r ∷ rs) here in
            let next = drop-next text.seats q x xs at in
            let place : q + 1 ≡ p + 1 + (n + 1) = omega arith in
            let tail : drop (n + 1) (r ∷ rs) ≡ xs = ap (drop (n + 1)) (sym behind) ∙ drop-drop (n + 1) (p + 1) text.seats ∙ ap (λ i. drop i text.seats) (sym place) ∙ next in
            let domain : bytes_of xs ≡ drop (n + 1) (bytes_of (r ∷ rs)) = ap bytes_of (sym tail) ∙ sym (drop-map (λ (y : Seat). y.byte) (n + 1) (r ∷ rs)) in
            goes-on AutolinkEmailAtext AutolinkEmailLabel q x xs local (with_b 0 (counts local)) (email_atext_rows (before_class g text q) (Some (text_byte x.byte)))
            (email_of (n + 1) (left_of_domain false 0 (drop (n + 1) (bytes_of (r ∷ rs))))) at
            (at-sign-allowed x.byte (and_parts (nat_lt 0 n) (is_at_sign x.byte) is).1) (after-sized 0 local) has
            (λ es h. picks name_ends next_label (when name_goes_on goes_name (row [] Nok)) k es true (tests ∙ is) h)
            (subst (λ bs. IsDecided (calls_at xs) (q + 1) xs (with_b 0 (counts local)) AutolinkEmailLabel (email_of (n + 1) (left_of_domain false 0 bs))) domain
            (decides-domain xs (q + 1) (n + 1) false 0 (with_b 0 (counts local)) next place (omega arith) refl (omega arith)))
        | false ↦ λ is. rejects AutolinkEmailAtext q (x ∷ xs) local (email_atext_rows (before_class g text q) (Some (text_byte x.byte))) has
            (λ es h. picks name_ends next_label (when name_goes_on goes_name (row [] Nok)) k es false (tests ∙ is) (picks name_goes_on goes_name (row [] Nok) k es false (ap (passes is_atext) waits ∙ stops) h))
      ] refl

  -- what is before `@` is read whole, and then `@`
  pub decides-address : (local : Local Unit Unit) → size_b local ≡ 0 → IsDecided (calls_at (r ∷ rs)) (p + 1) (r ∷ rs) local AutolinkEmailAtext (email_with (bytes_of (s ∷ r ∷ rs)) (prefix_len is_atext (bytes_of (r ∷ rs))))
  decides-address local zero_read =
      let l = r ∷ rs in
      let bs = bytes_of l in
      let n = prefix_len is_atext bs in
      let q = p + 1 + n in
      let rest = past is_atext l in
      let after = passed is_atext name_read l local in
      let begun = begun_marked AutolinkEmail g text events p in
      let behind : drop (p + 1) text.seats ≡ l = drop-next text.seats p s l here in
      let at = past-at g text m is_atext l (p + 1) q behind refl in
      let last : slice_get bs n ≡ first_byte rest = byte-behind text.seats (p + 1) n l rest behind at in
      let o = λ (w : Option ℕ). cond (nat_lt 0 n && passes is_at_sign w) (email_of (n + 1) (left_of_domain false 0 (drop (n + 1) bs))) None in
      let item : o (first_byte rest) ≡ email_with (bytes_of (s ∷ l)) n = ap o (sym last) ∙ sym (email-is s.byte bs n) in
      subst (IsDecided (calls_at l) (p + 1) l local AutolinkEmailAtext) item
      (decides-within g text m names (prefix_len is_atext bs) (calls_at rest) (calls_at l) nok p ended events (s ∷ l) (in_tried (p + 1) l local) (in_tried q rest after) choices choices
      (Retry AutolinkEmailAtext) (Retry AutolinkEmailAtext) (o (first_byte rest)) (omega (arith, looked-once is_atext is_allowed atext-allowed l)) (after-passed name_read (after-sized 1) is_atext l local)
      (loops g text m email_spans choices AutolinkEmailAtext is_atext name_read
      (λ q ended events local x at is es h.
      let k = held email_spans q Byte ended events local in
      let waits = ap byte_of at in
      let no : is_at_sign x.byte ≡ false = grind (arith, nat_tests) in
      leads-seen g text m email_atext_rows k choices AutolinkEmailAtext es waits refl (e.email_atext k)
      (picks name_ends next_label (when name_goes_on goes_name (row [] Nok)) k es false ((λ j. passes is_at_sign (waits j) && nat_lt 0 (size_b local)) ∙ ap (λ t. t && nat_lt 0 (size_b local)) no)
      (picks name_goes_on goes_name (row [] Nok) k es true (ap (passes is_atext) waits ∙ is) h)))
      l (p + 1) q begun local behind refl)
      (at-name-end rest after at (past-stops is_atext l) (reads-some l local zero_read)))

module _ (g : Given) (text : Text) (m : Plays g text) (e : PlaysEmails g text m) (names : Between) where
  -- an email autolink is tried at its marker
  tries-marker : (n n' : ℕ) (nok : Name) (p : ℕ) (ended : Bool) (events : List Event) (local : Local Unit Unit) (s : Seat) (ss : List Seat) → drop p text.seats ≡ s ∷ ss → s.byte ≡ 60 → 1 + n ≤ n' → (o : Option Found)
      → DecidesIn g text m names n nok p ended events (s ∷ ss) (shows ss email_spans (p + 1) (begun_marked AutolinkEmail g text events p) (with_b 0 (counts local))) (outer names.home nok p ended events ∷ []) (Retry AutolinkEmailAtext) o
      → TriedIn g text m names n' AutolinkEmailAtSignOrDot nok p ended events local (s ∷ ss) o
  tries-marker n n' nok p ended events local s ss here is fits o decided =
      let waits = outer names.home nok p ended events ∷ [] in
      let k = between_items p Byte ended events local in
      decides-within g text m names 1 n n' nok p ended events (s ∷ ss) k (shows ss email_spans (p + 1) (begun_marked AutolinkEmail g text events p) (with_b 0 (counts local))) waits waits (Retry AutolinkEmailAtSignOrDot)
      (Retry AutolinkEmailAtext) o fits (after-sized 0 local)
      (λ es h.
      leads-row g text m (email_start_rows None None) k waits AutolinkEmailAtSignOrDot es (e.email_start k)
      (goes-next g text m ss email_spans (p + 1) (begun_marked AutolinkEmail g text events p) (with_b 0 (counts local)) waits AutolinkEmailAtext (drop-next text.seats p s ss here) es h))
      decided

  tries-email : IsJoined g text → (nok : Name) (p : ℕ) (ended : Bool) (events : List Event) (local : Local Unit Unit) (s : Seat) (ss : List Seat) → drop p text.seats ≡ s ∷ ss → s.byte ≡ 60
      → TriedIn g text m names (link_calls (bytes_of (s ∷ ss))) AutolinkEmailAtSignOrDot nok p ended events local (s ∷ ss) (email_at (bytes_of (s ∷ ss)))
  tries-email joined nok p ended events local s [] here is =
      let calls = link_calls (bytes_of (s ∷ [])) in
      subst (λ b. TriedIn g text m names calls AutolinkEmailAtSignOrDot nok p ended events local (s ∷ []) (cond b None None)) (sym (ap (λ b. b == 60) is))
      (tries-marker 1 calls nok p ended events local s [] here is (omega arith) None (
        counts (with_b 0 (counts local)),
        after-call (with_b 0 (counts local)),
        refused g text m names email_atext_rows AutolinkEmailAtext e.email_atext nok p ended events [] email_spans (p + 1) (begun_marked AutolinkEmail g text events p) (with_b 0 (counts local)) (drop-next text.seats p s [] here) refl
            (marked-front AutolinkEmail g text events p),
      ))
  tries-email joined nok p ended events local s (r ∷ rs) here is =
      let calls = link_calls (bytes_of (s ∷ r ∷ rs)) in
      let o = email_with (bytes_of (s ∷ r ∷ rs)) (prefix_len is_atext (bytes_of (r ∷ rs))) in
      subst (λ b. TriedIn g text m names calls AutolinkEmailAtSignOrDot nok p ended events local (s ∷ r ∷ rs) (cond b o None)) (sym (ap (λ b. b == 60) is))
      (tries-marker (prefix_len is_allowed (bytes_of (r ∷ rs)) + 1) calls nok p ended events local s (r ∷ rs) here is (omega arith) o
      (decides-address g text m e names joined nok p ended events s r rs here (ap (λ b. b == 10) is) (with_b 0 (counts local)) refl))

-- The theorem of email autolinks, within so many calls
pub emails-reads-in : (g : Given) (text : Text) (m : Plays g text) → PlaysEmails g text m → (names : Between) → IsText g text → ReadsIn g text m names link_calls emails
emails-reads-in g text m e names is nok p ended events local s ss here first =
    tries-email g text m e names (text-joined g text is) nok p ended events local s ss here (eqb-true s.byte 60 first)
