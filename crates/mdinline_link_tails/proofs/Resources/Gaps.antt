-- How white space of a resource is read: spaces and tabs, and maybe a line ending with spaces and tabs behind it.
use Rattle.mdinline_link_tails.proofs.Prelude.{◌≡◌, ℕ, zero, suc, ◌+◌, ◌*◌, ◌≤◌, ◌<◌, ◌==◌, List, [], ◌∷◌, ◌++◌, Bool, true, false, cond, Option, None, refl, sym, ap, ◌∙◌, subst, arith, take, drop, length, drop-next, drop-map, drop-take, take-take, append-nil, append_assoc, prefix_len, Event, EventName, LineEnding, Resource, SpaceOrTab, Name, Retry, LabelEndResourceBefore, LabelEndResourceOpen, LabelEndResourceEnd, TitleStart, Seat, Given, Text, Byte, shows, Choice, Configuration, Local, byte_of, held, row_step, HasRows, Leads, before_class, class_of, text_byte, counts, loops, passed, past, past-at, past-stops, first_byte, passes, Plays, Found, bytes_of, leaf, Act, Rows, row, enter, exit, when, tested, leads-row}
use Rattle.mdinline_text_machine.proofs.Plain.Stretches.{leaf-read, passed-keeps, past-is}
use Rattle.mdinline_labels.specs.Tails.{begins_with, gap, is_white}
use Rattle.mdinline_link_tails.specs.declared.names.TheConstants.{ResourceGapWhite, ResourceGapLine, ResourceGapLineWhite}
use Rattle.mdinline_link_tails.specs.Resource.{gap_events}
use Rattle.mdinline_link_tails.specs.ResourceRows.{at_bytes_only, ends_line, gap_ends, gap_line_rows, gap_line_white_rows, gap_white_rows, reads_on, resource_before_rows, shows as shown_byte, waits}
use Rattle.mdinline_link_tails.proofs.Resources.Steps.{PlaysResources, Does, yes, no, here, seen, enters_at, exits_at, exits_past, Finds, further, stands, left, fails, reads, stays, line-ending-read}
use Rattle.mdinline_link_tails.proofs.Resources.Touched.{touched-call, touched-passed}

-- What white space stands before: its number, and the state that follows
pub data Stop : Type 0 where
  to_destination : Stop
  to_title : Stop
  to_close : Stop

abbrev pub number_of : Stop → ℕ
number_of to_destination = 0
number_of to_title = 1
number_of to_close = 2

abbrev pub state_of : Stop → Name
state_of to_destination = LabelEndResourceOpen
state_of to_title = TitleStart
state_of to_close = LabelEndResourceEnd

abbrev pub stop_kept : Local Unit Unit → ℕ
stop_kept local = local.tokenize_state.marker_b

-- the spans that are open
abbrev pub in_resource_only : List EventName
in_resource_only = Resource ∷ []

abbrev pub in_white : List EventName
in_white = Resource ∷ SpaceOrTab ∷ []

-- how many spaces and tabs come
abbrev pub white_of : List Seat → ℕ
white_of l = prefix_len is_white (bytes_of l)

module _ (g : Given) (text : Text) (m : Plays g text) where
  -- the state that follows is the one of the number that was kept
  picks-stop : (w : Stop) (k : Configuration Unit Unit) (name : Name) (acts : List (Act Unit Unit)) → stop_kept k.local ≡ number_of w → Does g text m k name (gap_ends acts)
      → Does g text m k name (row acts (Retry (state_of w)))
  picks-stop to_destination k name acts is has = yes g text m k name has (ap (λ n. n == 0) is)
  picks-stop to_title k name acts is has = yes g text m k name (no g text m k name has (ap (λ n. n == 0) is)) (ap (λ n. n == 1) is)
  picks-stop to_close k name acts is has = no g text m k name (no g text m k name has (ap (λ n. n == 0) is)) (ap (λ n. n == 1) is)

  -- spaces and tabs are read, one after another
  over-white : (inside : Name) (others : Rows Unit Unit) (cs : List Choice) → HasRows g text m.step inside (at_bytes_only (when (shown_byte is_white) (reads_on [] inside) others))
      → (l : List Seat) (q q' : ℕ) (es : List Event) (local : Local Unit Unit) → drop q text.seats ≡ l → q' ≡ q + white_of l
      → Leads g text m (shows l in_white q es local) cs (Retry inside) (shows (past is_white l) in_white q' es (passed is_white counts l local)) cs (Retry inside)
  over-white inside others cs has l q q' es local at is =
      loops g text m in_white cs inside is_white counts
      (λ q ended es local s front white e i.
      let k = held in_white q Byte ended es local in
      let sees = ap byte_of front in
      leads-row g text m (reads_on [] inside) k cs inside e
      (has k ∙ ap (λ o. row_step g text k (at_bytes_only (when (shown_byte is_white) (reads_on [] inside) others) (before_class g text q) (class_of text_byte o))) sees
      ∙ tested g text (shown_byte is_white) (reads_on [] inside) others k true (ap (passes is_white) sees ∙ white)) i)
      l q q' es local at is

-- bytes that are left out behind a run change it not
prefix-cut : (test : ℕ → Bool) (n : ℕ) (l : List Seat) → prefix_len test (bytes_of l) ≤ n → prefix_len test (bytes_of (take n l)) ≡ prefix_len test (bytes_of l)
prefix-cut test zero [] h = refl
prefix-cut test zero (s ∷ ss) h = omega (arith, h)
prefix-cut test (suc n) [] h = refl
prefix-cut test (suc n) (s ∷ ss) h =
    elim (test s.byte) as (λ t. cond t (1 + prefix_len test (bytes_of ss)) 0 ≤ suc n → cond t (1 + prefix_len test (bytes_of (take n ss))) 0 ≡ cond t (1 + prefix_len test (bytes_of ss)) 0) [
      | true ↦ λ i. ap (λ k. 1 + k) (prefix-cut test n ss (omega (arith, i)))
      | false ↦ λ i. refl
    ] h

le-self : (n : ℕ) → n ≤ n
le-self n = omega arith

taken-out : (n : ℕ) (l : List Seat) → drop n (take n l) ≡ []
taken-out n l = let same : n ≡ n + 0 = omega arith in ap (λ k. drop n (take k l)) same ∙ drop-take n 0 l

-- white space by its parts: the first spaces and tabs
module _ (bytes : List ℕ) where
  white-only : (l : List Seat) → gap_events bytes (take (white_of l) l) ≡ leaf bytes SpaceOrTab (take (white_of l) l)
  white-only l = let n = white_of l in
      (λ i. leaf bytes SpaceOrTab (take (prefix-cut is_white n l (le-self n) i) (take n l)) ++ (leaf bytes LineEnding (take 1 (drop (prefix-cut is_white n l (le-self n) i) (take n l))) ++ leaf bytes SpaceOrTab (drop 1 (drop (prefix-cut is_white n l (le-self n) i) (take n l)))))
      ∙ (λ i. leaf bytes SpaceOrTab (take-take n n l (le-self n) i) ++ (leaf bytes LineEnding (take 1 (taken-out n l i)) ++ leaf bytes SpaceOrTab (drop 1 (taken-out n l i))))
      ∙ append-nil (leaf bytes SpaceOrTab (take n l))

  white-line : (l : List Seat) (f : Seat) (fs : List Seat) → drop (white_of l) l ≡ f ∷ fs
      → gap_events bytes (take (white_of l + 1 + white_of fs) l) ≡ leaf bytes SpaceOrTab (take (white_of l) l) ++ (leaf bytes LineEnding (f ∷ []) ++ leaf bytes SpaceOrTab (take (white_of fs) fs))
  white-line l f fs there =
      let n = white_of l in
      let k = white_of fs in
      let more : n ≤ n + 1 + k = omega arith in
      let same : n + 1 + k ≡ n + (1 + k) = omega arith in
      let one : 1 + k ≡ suc k = omega arith in
      let rest : drop n (take (n + 1 + k) l) ≡ f ∷ take k fs = ap (λ i. drop n (take i l)) same ∙ drop-take n (1 + k) l ∙ (λ i. take (one i) (there i)) in
      (λ i. leaf bytes SpaceOrTab (take (prefix-cut is_white (n + 1 + k) l more i) (take (n + 1 + k) l)) ++ (leaf bytes LineEnding (take 1 (drop (prefix-cut is_white (n + 1 + k) l more i) (take (n + 1 + k) l))) ++ leaf bytes SpaceOrTab (drop 1 (drop (prefix-cut is_white (n + 1 + k) l more i) (take (n + 1 + k) l)))))
      ∙ (λ i. leaf bytes SpaceOrTab (take-take n (n + 1 + k) l more i) ++ (leaf bytes LineEnding (take 1 (rest i)) ++ leaf bytes SpaceOrTab (drop 1 (rest i))))

-- how many bytes white space has
gap-plain : (l rest : List Seat) → drop (white_of l) l ≡ rest → begins_with 10 (bytes_of rest) ≡ false → gap (bytes_of l) ≡ white_of l
gap-plain l rest there plain =
    let n = white_of l in
    let behind : drop n (bytes_of l) ≡ bytes_of rest = drop-map (λ (y : Seat). y.byte) n l ∙ ap bytes_of there in
    ap (λ t. cond t (n + 1 + prefix_len is_white (drop (n + 1) (bytes_of l))) n) (ap (begins_with 10) behind ∙ plain)

gap-line : (l : List Seat) (f : Seat) (fs : List Seat) → drop (white_of l) l ≡ f ∷ fs → (f.byte == 10) ≡ true → gap (bytes_of l) ≡ white_of l + 1 + white_of fs
gap-line l f fs there feed =
    let n = white_of l in
    let first : drop n (bytes_of l) ≡ bytes_of (f ∷ fs) = drop-map (λ (y : Seat). y.byte) n l ∙ ap bytes_of there in
    let second : drop (n + 1) (bytes_of l) ≡ bytes_of fs = drop-map (λ (y : Seat). y.byte) (n + 1) l ∙ ap bytes_of (drop-next l n f fs there) in
    λ i. cond ((ap (begins_with 10) first ∙ feed) i) (n + 1 + prefix_len is_white (second i)) n

-- how long what is left is
past-long : (l : List Seat) → length (past is_white l) + white_of l ≡ length l
past-long [] = refl
past-long (s ∷ ss) = elim (is_white s.byte) as (λ t. length (cond t (past is_white ss) (s ∷ ss)) + cond t (1 + white_of ss) 0 ≡ suc (length ss)) [
  | true ↦ omega (arith, past-long ss)
  | false ↦ omega arith
]

module _ (g : Given) (text : Text) (m : Plays g text) (r : PlaysResources g text m) (cs : List Choice) (p far : ℕ) (events : List Event) (seats : List Seat) (w : Stop) (o : Option Found) where
  -- white space over these seats
  white-events : (n q0 q : ℕ) (x0 : List Event) (s0 : Seat) (ss0 : List Seat) → drop q0 text.seats ≡ s0 ∷ ss0 → q ≡ q0 + n → 0 < n → n ≤ suc (length ss0)
      → (events ++ (x0 ++ enters_at g text SpaceOrTab q0 ∷ [])) ++ exits_at g text SpaceOrTab q ∷ [] ≡ events ++ (x0 ++ leaf g.bytes SpaceOrTab (take n (s0 ∷ ss0)))
  white-events n q0 q x0 s0 ss0 at is some within =
      let enters = enters_at g text SpaceOrTab q0 in
      append_assoc events (x0 ++ enters ∷ []) (exits_at g text SpaceOrTab q ∷ [])
      ∙ ap (λ y. events ++ y)
      (append_assoc x0 (enters ∷ []) (exits_at g text SpaceOrTab q ∷ [])
      ∙ ap (λ y. x0 ++ y) (ap (λ i. enters ∷ exits_at g text SpaceOrTab i ∷ []) is ∙ leaf-read text g.bytes SpaceOrTab n q0 s0 ss0 at some within))

  -- where spaces and tabs end the state follows
  leaves : (inside : Name) (n q0 q : ℕ) (x0 : List Event) (local : Local Unit Unit) (s0 : Seat) (ss0 : List Seat) (y : Seat) (ys : List Seat) → drop q0 text.seats ≡ s0 ∷ ss0 → q ≡ q0 + n → 0 < n → n ≤ suc (length ss0)
      → stop_kept local ≡ number_of w
      → Does g text m (stands g text m cs p far events seats in_white q (x0 ++ enters_at g text SpaceOrTab q0 ∷ []) local) inside (gap_ends (exit SpaceOrTab ∷ []))
      → ((after : Local Unit Unit) → Finds g text m cs p far events seats (4 * length (y ∷ ys) + 2) (stands g text m cs p far events seats in_resource_only q (x0 ++ leaf g.bytes SpaceOrTab (take n (s0 ∷ ss0))) after) (state_of w) o)
      → Finds g text m cs p far events seats (4 * length (y ∷ ys) + 3) (stands g text m cs p far events seats in_white q (x0 ++ enters_at g text SpaceOrTab q0 ∷ []) local) inside o
  leaves inside n q0 q x0 local s0 ss0 y ys at is some within kept has next =
      let x = x0 ++ enters_at g text SpaceOrTab q0 ∷ [] in
      let k = stands g text m cs p far events seats in_white q x local in
      stays g text m cs p far events seats (4 * length (y ∷ ys) + 2) (4 * length (y ∷ ys) + 3) in_white in_resource_only q x (x0 ++ leaf g.bytes SpaceOrTab (take n (s0 ∷ ss0))) local (counts local) inside (state_of w)
      (row (exit SpaceOrTab ∷ []) (Retry (state_of w))) o ((events ++ x) ++ exits_at g text SpaceOrTab q ∷ []) (omega arith) (touched-call local) (picks-stop g text m w k inside (exit SpaceOrTab ∷ []) kept has)
      (white-events n q0 q x0 s0 ss0 at is some within) (λ e i. i) (next (counts local))

  -- spaces and tabs from their second on
  through-white : (inside : Name) (others : Rows Unit Unit) → HasRows g text m.step inside (at_bytes_only (when (shown_byte is_white) (reads_on [] inside) others))
      → (l : List Seat) (q q' : ℕ) (x : List Event) (local : Local Unit Unit) → drop q text.seats ≡ l → q' ≡ q + white_of l
      → Finds g text m cs p far events seats (4 * length (past is_white l) + 3) (left g text m cs p far events seats (past is_white l) in_white q' x (passed is_white counts l local)) inside o
      → Finds g text m cs p far events seats (4 * length l + 3) (left g text m cs p far events seats l in_white q x local) inside o
  through-white inside others has l q q' x local at is d =
      further g text m cs p far events seats (white_of l) (4 * length (past is_white l) + 3) (4 * length l + 3) (left g text m cs p far events seats l in_white q x local)
      (left g text m cs p far events seats (past is_white l) in_white q' x (passed is_white counts l local)) inside inside o (omega (arith, past-long l)) (touched-passed is_white l local)
      (over-white g text m inside others cs has l q q' (events ++ x) local at is) d

  -- what is kept is kept over them
  kept-over : (l : List Seat) (local : Local Unit Unit) → stop_kept local ≡ number_of w → stop_kept (passed is_white counts l local) ≡ number_of w
  kept-over l local kept = passed-keeps stop_kept counts (λ local. refl) is_white l local ∙ kept

  -- what follows behind the line ending, and what is found at the end of the text
  abbrev NextOfLine : (q : ℕ) (x : List Event) (l : List Seat) → Type 0
  NextOfLine q x l =
      (q' : ℕ) (y : Seat) (ys : List Seat) (after : Local Unit Unit) → q' ≡ q + white_of l → drop q' text.seats ≡ y ∷ ys
      → Finds g text m cs p far events seats (4 * length (y ∷ ys) + 2) (stands g text m cs p far events seats in_resource_only q' (x ++ leaf g.bytes SpaceOrTab (take (white_of l) l)) after) (state_of w) o

  reads-line-gap : (l : List Seat) (q : ℕ) (x : List Event) (local : Local Unit Unit) → drop q text.seats ≡ l → stop_kept local ≡ number_of w → NextOfLine q x l
      → ((q' : ℕ) → q' ≡ q + white_of l → drop q' text.seats ≡ [] → (o ≡ None) × (q' ≤ far))
      → Finds g text m cs p far events seats (4 * length l + 3) (left g text m cs p far events seats l in_resource_only q x local) ResourceGapLine o
  reads-line-gap [] q x local at kept next none =
      subst (Finds g text m cs p far events seats (4 * 0 + 3) (left g text m cs p far events seats [] in_resource_only q x local) ResourceGapLine) (sym (none q (omega arith) at).0)
      (fails g text m cs p far events seats (4 * 0 + 3) [] in_resource_only q x local ResourceGapLine at (omega arith) (none q (omega arith) at).1 (r.line _))
  reads-line-gap (s ∷ ss) q x local at kept next none =
      let k = stands g text m cs p far events seats in_resource_only q x local in
      let n = white_of (s ∷ ss) in
      let calls = 4 * length (s ∷ ss) + 3 in
      let has = here g text m gap_line_rows ResourceGapLine in_resource_only q (events ++ x) local s ss at r.line in
      elim (is_white s.byte) as (λ t. is_white s.byte ≡ t → Finds g text m cs p far events seats calls k ResourceGapLine o) [
        | true ↦ λ e.
            let n_is : n ≡ 1 + white_of ss = ap (λ t. cond t (1 + white_of ss) 0) e in
            let next_at = drop-next text.seats q s ss at in
            let begun = x ++ enters_at g text SpaceOrTab q ∷ [] in
            let place : q + n ≡ q + 1 + white_of ss = omega (arith, n_is) in
            let after = passed is_white counts ss (counts local) in
            reads g text m cs p far events seats (4 * length ss + 3) calls in_resource_only in_white q x begun local (counts local) ResourceGapLine ResourceGapLineWhite s ss
            (reads_on (enter SpaceOrTab ∷ []) ResourceGapLineWhite) o ((events ++ x) ++ enters_at g text SpaceOrTab q ∷ []) at (omega arith) (touched-call local)
            (yes g text m k ResourceGapLine has (seen g text m is_white true q s ss at e)) (append_assoc events x (enters_at g text SpaceOrTab q ∷ [])) (λ e i. i)
            (through-white ResourceGapLineWhite (gap_ends (exit SpaceOrTab ∷ [])) r.line_white ss (q + 1) (q + n) begun (counts local) next_at place
            (elim (past is_white ss) as (λ l. drop (q + n) text.seats ≡ l → passes is_white (first_byte l) ≡ false
            → Finds g text m cs p far events seats (4 * length l + 3) (left g text m cs p far events seats l in_white (q + n) begun after) ResourceGapLineWhite o) [
              | [] ↦ λ there stops.
                  subst (Finds g text m cs p far events seats (4 * 0 + 3) (left g text m cs p far events seats [] in_white (q + n) begun after) ResourceGapLineWhite) (sym (none (q + n) refl there).0)
                  (fails g text m cs p far events seats (4 * 0 + 3) [] in_white (q + n) begun after ResourceGapLineWhite there (omega arith) (none (q + n) refl there).1 (r.line_white _))
              | y ∷ ys ↦ λ there stops.
                  leaves ResourceGapLineWhite n q (q + n) x after s ss y ys at refl (omega (arith, n_is)) (omega (arith, past-long (s ∷ ss))) (kept-over ss (counts local) kept)
                  (no g text m (stands g text m cs p far events seats in_white (q + n) begun after) ResourceGapLineWhite
                  (here g text m gap_line_white_rows ResourceGapLineWhite in_white (q + n) (events ++ begun) after y ys there r.line_white) (seen g text m is_white false (q + n) y ys there stops))
                  (λ a. next (q + n) y ys a refl there)
            ] (past-at g text m is_white ss (q + 1) (q + n) next_at place) (past-stops is_white ss)))
        | false ↦ λ e.
            let n_is : n ≡ 0 = ap (λ t. cond t (1 + white_of ss) 0) e in
            let same : x ≡ x ++ leaf g.bytes SpaceOrTab (take n (s ∷ ss)) = sym (ap (λ n. x ++ leaf g.bytes SpaceOrTab (take n (s ∷ ss))) n_is ∙ append-nil x) in
            stays g text m cs p far events seats (4 * length (s ∷ ss) + 2) calls in_resource_only in_resource_only q x x local (counts local) ResourceGapLine (state_of w) (row [] (Retry (state_of w))) o (events ++ x)
            (omega arith) (touched-call local) (picks-stop g text m w k ResourceGapLine [] kept (no g text m k ResourceGapLine has (seen g text m is_white false q s ss at e))) refl (λ e i. i)
            (subst (λ y. Finds g text m cs p far events seats (4 * length (s ∷ ss) + 2) (stands g text m cs p far events seats in_resource_only q y (counts local)) (state_of w) o) (sym same)
            (next q s ss (counts local) (omega (arith, n_is)) at))
      ] refl

  -- what follows behind white space
  abbrev pub NextOfGap : (q : ℕ) (x : List Event) (l : List Seat) → Type 0
  NextOfGap q x l =
      (q' : ℕ) (y : Seat) (ys : List Seat) (after : Local Unit Unit) → q' ≡ q + gap (bytes_of l) → drop q' text.seats ≡ y ∷ ys
      → Finds g text m cs p far events seats (4 * length (y ∷ ys) + 2) (stands g text m cs p far events seats in_resource_only q' (x ++ gap_events g.bytes (take (gap (bytes_of l)) l)) after) (state_of w) o

  -- The state behind white space is called with its events
  pub reads-gap : (l : List Seat) (q : ℕ) (x : List Event) (local : Local Unit Unit) → drop q text.seats ≡ l → stop_kept local ≡ number_of w → NextOfGap q x l
      → ((q' : ℕ) → q' ≡ q + gap (bytes_of l) → drop q' text.seats ≡ [] → (o ≡ None) × (q' ≤ far))
      → Finds g text m cs p far events seats (4 * length l + 3) (left g text m cs p far events seats l in_resource_only q x local) LabelEndResourceBefore o
  reads-gap [] q x local at kept next none =
      subst (Finds g text m cs p far events seats (4 * 0 + 3) (left g text m cs p far events seats [] in_resource_only q x local) LabelEndResourceBefore) (sym (none q (omega arith) at).0)
      (fails g text m cs p far events seats (4 * 0 + 3) [] in_resource_only q x local LabelEndResourceBefore at (omega arith) (none q (omega arith) at).1 (r.gap _))
  reads-gap (s ∷ ss) q x local at kept next none =
      let all = s ∷ ss in
      let k = stands g text m cs p far events seats in_resource_only q x local in
      let n = white_of all in
      let calls = 4 * length all + 3 in
      let white = leaf g.bytes SpaceOrTab (take n all) in
      let has = here g text m resource_before_rows LabelEndResourceBefore in_resource_only q (events ++ x) local s ss at r.gap in
      let next_at = drop-next text.seats q s ss at in
      elim (is_white s.byte) as (λ t. is_white s.byte ≡ t → Finds g text m cs p far events seats calls k LabelEndResourceBefore o) [
        | true ↦ λ e.
            let n_is : n ≡ 1 + white_of ss = ap (λ t. cond t (1 + white_of ss) 0) e in
            let begun = x ++ enters_at g text SpaceOrTab q ∷ [] in
            let q1 = q + n in
            let place : q1 ≡ q + 1 + white_of ss = omega (arith, n_is) in
            let after = passed is_white counts ss (counts local) in
            let within : n ≤ suc (length ss) = omega (arith, past-long all) in
            let left_is : drop n all ≡ past is_white ss = sym (past-is is_white all) ∙ ap (λ t. cond t (past is_white ss) all) e in
            reads g text m cs p far events seats (4 * length ss + 3) calls in_resource_only in_white q x begun local (counts local) LabelEndResourceBefore ResourceGapWhite s ss
            (reads_on (enter SpaceOrTab ∷ []) ResourceGapWhite) o ((events ++ x) ++ enters_at g text SpaceOrTab q ∷ []) at (omega arith) (touched-call local)
            (yes g text m k LabelEndResourceBefore has (seen g text m is_white true q s ss at e)) (append_assoc events x (enters_at g text SpaceOrTab q ∷ [])) (λ e i. i)
            (through-white ResourceGapWhite (when (waits 10) (ends_line (exit SpaceOrTab ∷ []) ResourceGapLine) (gap_ends (exit SpaceOrTab ∷ []))) r.white ss (q + 1) q1 begun (counts local) next_at place
            (elim (past is_white ss) as (λ l. drop q1 text.seats ≡ l → drop n all ≡ l → passes is_white (first_byte l) ≡ false
            → Finds g text m cs p far events seats (4 * length l + 3) (left g text m cs p far events seats l in_white q1 begun after) ResourceGapWhite o) [
              | [] ↦ λ there behind stops.
                  subst (Finds g text m cs p far events seats (4 * 0 + 3) (left g text m cs p far events seats [] in_white q1 begun after) ResourceGapWhite)
                  (sym (none q1 (ap (λ n. q + n) (sym (gap-plain all [] behind refl))) there).0)
                  (fails g text m cs p far events seats (4 * 0 + 3) [] in_white q1 begun after ResourceGapWhite there (omega arith) (none q1 (ap (λ n. q + n) (sym (gap-plain all [] behind refl))) there).1 (r.white _))
              | y ∷ ys ↦ λ there behind stops.
                  let k1 = stands g text m cs p far events seats in_white q1 begun after in
                  let has1 = no g text m k1 ResourceGapWhite (here g text m gap_white_rows ResourceGapWhite in_white q1 (events ++ begun) after y ys there r.white) (seen g text m is_white false q1 y ys there stops) in
                  elim (y.byte == 10) as (λ t. (y.byte == 10) ≡ t → Finds g text m cs p far events seats (4 * length (y ∷ ys) + 3) k1 ResourceGapWhite o) [
                    | true ↦ λ feed.
                        let size : gap (bytes_of all) ≡ n + 1 + white_of ys = gap-line all y ys behind feed in
                        let line = leaf g.bytes LineEnding (y ∷ []) in
                        let x1 = x ++ (white ++ line) in
                        let made : (((events ++ begun) ++ exits_at g text SpaceOrTab q1 ∷ []) ++ enters_at g text LineEnding q1 ∷ []) ++ exits_past g text LineEnding q1 ∷ [] ≡ events ++ x1 =
                        line-ending-read g text ((events ++ begun) ++ exits_at g text SpaceOrTab q1 ∷ []) q1 y ys there
                        ∙ ap (λ z. z ++ line) (white-events n q q1 x s ss at refl (omega (arith, n_is)) within)
                        ∙ append_assoc events (x ++ white) line ∙ ap (λ z. events ++ z) (append_assoc x white line) in
                        reads g text m cs p far events seats (4 * length ys + 3) (4 * length (y ∷ ys) + 3) in_white in_resource_only q1 begun x1 after (counts after) ResourceGapWhite ResourceGapLine y ys
                        (ends_line (exit SpaceOrTab ∷ []) ResourceGapLine) o ((((events ++ begun) ++ exits_at g text SpaceOrTab q1 ∷ []) ++ enters_at g text LineEnding q1 ∷ []) ++ exits_past g text LineEnding q1 ∷ [])
                        there (omega arith) (touched-call after) (yes g text m k1 ResourceGapWhite has1 (seen g text m (λ b. b == 10) true q1 y ys there feed)) made (λ e i. i)
                        (reads-line-gap ys (q1 + 1) x1 (counts after) (drop-next text.seats q1 y ys there) (kept-over ss (counts local) kept)
                        (λ q2 z zs a is there2.
                        let further_white = leaf g.bytes SpaceOrTab (take (white_of ys) ys) in
                        let same : x1 ++ further_white ≡ x ++ gap_events g.bytes (take (gap (bytes_of all)) all) =
                        append_assoc x (white ++ line) further_white ∙ ap (λ z. x ++ z) (append_assoc white line further_white ∙ sym (white-line g.bytes all y ys behind) ∙ ap (λ n. gap_events g.bytes (take n all)) (sym size)) in
                        subst (λ y. Finds g text m cs p far events seats (4 * length (z ∷ zs) + 2) (stands g text m cs p far events seats in_resource_only q2 y a) (state_of w) o) (sym same)
                        (next q2 z zs a (omega (arith, is, size)) there2))
                        (λ q2 is there2. none q2 (omega (arith, is, size)) there2))
                    | false ↦ λ plain.
                        let size : gap (bytes_of all) ≡ n = gap-plain all (y ∷ ys) behind plain in
                        let same : x ++ white ≡ x ++ gap_events g.bytes (take (gap (bytes_of all)) all) = ap (λ z. x ++ z) (sym (white-only g.bytes all) ∙ ap (λ n. gap_events g.bytes (take n all)) (sym size)) in
                        leaves ResourceGapWhite n q q1 x after s ss y ys at refl (omega (arith, n_is)) within (kept-over ss (counts local) kept)
                        (no g text m k1 ResourceGapWhite has1 (seen g text m (λ b. b == 10) false q1 y ys there plain))
                        (λ a. subst (λ z. Finds g text m cs p far events seats (4 * length (y ∷ ys) + 2) (stands g text m cs p far events seats in_resource_only q1 z a) (state_of w) o) (sym same)
                        (next q1 y ys a (ap (λ n. q + n) (sym size)) there))
                  ] refl
            ] (past-at g text m is_white ss (q + 1) q1 next_at place) left_is (past-stops is_white ss)))
        | false ↦ λ e.
            let n_is : n ≡ 0 = ap (λ t. cond t (1 + white_of ss) 0) e in
            let behind : drop n all ≡ all = ap (λ n. drop n all) n_is in
            let no_white : white ≡ [] = ap (λ n. leaf g.bytes SpaceOrTab (take n all)) n_is in
            let has1 = no g text m k LabelEndResourceBefore has (seen g text m is_white false q s ss at e) in
            elim (s.byte == 10) as (λ t. (s.byte == 10) ≡ t → Finds g text m cs p far events seats calls k LabelEndResourceBefore o) [
              | true ↦ λ feed.
                  let size : gap (bytes_of all) ≡ n + 1 + white_of ss = gap-line all s ss behind feed in
                  let line = leaf g.bytes LineEnding (s ∷ []) in
                  let x1 = x ++ line in
                  reads g text m cs p far events seats (4 * length ss + 3) calls in_resource_only in_resource_only q x x1 local (counts local) LabelEndResourceBefore ResourceGapLine s ss (ends_line [] ResourceGapLine) o
                  (((events ++ x) ++ enters_at g text LineEnding q ∷ []) ++ exits_past g text LineEnding q ∷ []) at (omega arith) (touched-call local)
                  (yes g text m k LabelEndResourceBefore has1 (seen g text m (λ b. b == 10) true q s ss at feed))
                  (line-ending-read g text (events ++ x) q s ss at ∙ append_assoc events x line) (λ e i. i)
                  (reads-line-gap ss (q + 1) x1 (counts local) next_at kept
                  (λ q2 z zs a is there2.
                  let further_white = leaf g.bytes SpaceOrTab (take (white_of ss) ss) in
                  let same : x1 ++ further_white ≡ x ++ gap_events g.bytes (take (gap (bytes_of all)) all) =
                  append_assoc x line further_white ∙ ap (λ z. x ++ z) (ap (λ z. z ++ (line ++ further_white)) (sym no_white) ∙ sym (white-line g.bytes all s ss behind) ∙ ap (λ n. gap_events g.bytes (take n all)) (sym size)) in
                  subst (λ y. Finds g text m cs p far events seats (4 * length (z ∷ zs) + 2) (stands g text m cs p far events seats in_resource_only q2 y a) (state_of w) o) (sym same)
                  (next q2 z zs a (omega (arith, is, size, n_is)) there2))
                  (λ q2 is there2. none q2 (omega (arith, is, size, n_is)) there2))
              | false ↦ λ plain.
                  let size : gap (bytes_of all) ≡ n = gap-plain all all behind plain in
                  let same : x ≡ x ++ gap_events g.bytes (take (gap (bytes_of all)) all) =
                  sym (append-nil x) ∙ ap (λ z. x ++ z) (sym no_white ∙ sym (white-only g.bytes all) ∙ ap (λ n. gap_events g.bytes (take n all)) (sym size)) in
                  stays g text m cs p far events seats (4 * length all + 2) calls in_resource_only in_resource_only q x x local (counts local) LabelEndResourceBefore (state_of w) (row [] (Retry (state_of w))) o (events ++ x)
                  (omega arith) (touched-call local) (picks-stop g text m w k LabelEndResourceBefore [] kept (no g text m k LabelEndResourceBefore has1 (seen g text m (λ b. b == 10) false q s ss at plain))) refl (λ e i. i)
                  (subst (λ y. Finds g text m cs p far events seats (4 * length all + 2) (stands g text m cs p far events seats in_resource_only q y (counts local)) (state_of w) o) (sym same)
                  (next q s ss (counts local) (omega (arith, size, n_is)) at))
            ] refl
      ] refl
